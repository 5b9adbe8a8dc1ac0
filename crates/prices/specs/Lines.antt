-- The lines of a price list: how one cost stands on a line, and what reading a line says.
-- Assumes nothing.
use Rattle.std.specs.Prelude.{◌≡◌, ℕ, List, Ok, Err, Result, ◌≢◌}
use Rattle.digits.specs.declared.numbers.ReadFault.{ReadFault}
use Rattle.digits.specs.declared.numbers.ReadFault.TheVariants.{Malformed, TooLarge}
use Rattle.digits.specs.Splits.{Without}

-- `line` is how a cost is written on its line; `Large` holds of what is of that form but for a number above the most.
module _ {C : Type 0} (line : C → List ℕ) (Large : List ℕ → Type 0) where
  -- no line has a newline in it, no two costs have the same line, and none is too large
  pub record Lines : Type 0 where
    pub plain : (c : C) → Without 10 (line c)
    pub apart : (a b : C) → line a ≡ line b → a ≡ b
    pub fits : (c : C) → Large (line c) → ⊥

  -- the bytes are a cost's line; or they are of the form, with a number above the most; or neither
  abbrev pub LineRead : List ℕ → Result C ReadFault → Type 0
  LineRead bs (Ok c) = bs ≡ line c
  LineRead bs (Err TooLarge) = Large bs
  LineRead bs (Err Malformed) = ((c : C) → bs ≢ line c) × (Large bs → ⊥)
