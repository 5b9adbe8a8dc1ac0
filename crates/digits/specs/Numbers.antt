-- Numbers as they are written in base ten, and what reading one says. Assumes nothing.
use Rattle.std.specs.Prelude.{◌≡◌, ℕ, ◌<◌, ◌≤◌, List, length, Ok, Err, decimal, Result, slice_index}
use Rattle.std.specs.Str.Parse.{digits_value}
use Rattle.std.specs.Int.{IsInRange}
use Rattle.std.specs.List.{AllByRecursion}
use Rattle.digits.specs.declared.numbers.ReadFault.{ReadFault}
use Rattle.digits.specs.declared.numbers.ReadFault.TheVariants.{Malformed, TooLarge}

-- digits alone, at least one, and no zero before another digit
abbrev pub BaseTen : List ℕ → Type 0
BaseTen bs = AllByRecursion (IsInRange 48 57) bs × (0 < length bs) × (slice_index bs 0 ≡ 48 → length bs ≡ 1)

-- the bytes are the text of a number of at most `most`; or they write a larger one; or they write none
abbrev pub NumberRead : ℕ → List ℕ → Result ℕ ReadFault → Type 0
NumberRead most bs (Ok n) = (bs ≡ decimal n) × (n ≤ most)
NumberRead most bs (Err TooLarge) = BaseTen bs × (most < digits_value 10 bs)
NumberRead most bs (Err Malformed) = BaseTen bs → ⊥
