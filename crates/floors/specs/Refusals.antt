-- The refusals of the calls that make a floor: the number and the values of each.
-- Assumes nothing.
use Rattle.std.specs.Prelude.{ℕ, Bool, cond, ◌&&◌, List, [], ◌∷◌, Ok, Err, Result, nat_le}
use Rattle.std.proofs.Math.Option.{Option, none, some}
use Rattle.floors.specs.declared.refusal.FloorRefusal.{FloorRefusal}
use Rattle.floors.specs.declared.refusal.FloorRefusal.TheVariants.{BadSize, BadRow}

-- a refusal's number, and what it answers besides: number 7 the row's number, counted from 0
abbrev pub numbered : FloorRefusal → ℕ × List ℕ
numbered BadSize = (6, [])
numbered (BadRow row) = (7, row ∷ [])

-- the refusal that a call answered, if it did
abbrev pub refusal_of : {T : Type 0} → Result T FloorRefusal → Option (ℕ × List ℕ)
refusal_of (Ok made) = none
refusal_of (Err e) = some (numbered e)

-- a floor has 1 to 128 places
abbrev pub size_fits : ℕ → Bool
size_fits places = nat_le 1 places && nat_le places 128

abbrev pub size_refusal : ℕ → Option (ℕ × List ℕ)
size_refusal places = cond (size_fits places) none (some (6, []))
