-- A row added to a front: removed are those that it beats, and it stands at its place among the others.
-- Assumes nothing.
use Rattle.std.proofs.Common.{◌≡◌, ℕ, ◌+◌, ◌<◌, ◌≤◌, false, List, [], ◌∷◌, length, take, ap, inl, inr, arith}
use Rattle.std.proofs.lemmas.List.{length-map, length-take}
use Rattle.std.proofs.lemmas.Bool.{cases_Bool, cond-false}
use Rattle.rules.specs.Kinds.{Kind}
use Rattle.rules.specs.Fronts.{Entry, covered, unbeaten, placed, added}
use Rattle.fronts.specs.declared.row.Row.{Row}
use Rattle.fronts.specs.Rows.{entry_of, in_use}
use Rattle.fronts.specs.Changes.{Holds}
use Rattle.fronts.proofs.Insertions.{length-placed}

-- the rows in use are among the rows
pub holds_within : {C : Type 0} {es : List (Entry C ℕ)} {old rows : List (Row C)} {n : ℕ} → Holds es old rows n → n ≤ length rows
holds_within {rows = rows} {n = n} h = omega (arith, h.count, ap length h.front, length-map (take n rows) entry_of, length-take n rows)

module _ {C : Type 0} (k : Kind C) where
  added_new : (es : List (Entry C ℕ)) (x : Entry C ℕ) → covered k es x.cost ≡ false → added k es x ≡ placed k (unbeaten k es x.cost) x
  added_new es x = cond-false (covered k es x.cost) es (placed k (unbeaten k es x.cost) x)

  -- where those that stay fill the slice, one more is too many
  pub added_too_long : (es : List (Entry C ℕ)) (x : Entry C ℕ) (room : ℕ) → covered k es x.cost ≡ false → room ≤ length (unbeaten k es x.cost) → room < length (added k es x)
  added_too_long es x room new le = omega (arith, ap length (added_new es x new), length-placed k (unbeaten k es x.cost) x)

  unbeaten_few : (es : List (Entry C ℕ)) (c : C) → length (unbeaten k es c) ≤ length es
  unbeaten_few [] c = omega arith
  unbeaten_few (e ∷ es) c =
      let rest = unbeaten_few es c in
      elim (cases_Bool (k.at_most c e.cost)) [ inl h ↦ rw h (omega arith) | inr h ↦ rw h (omega arith) ]

  -- while a row is free, those that stay leave it free
  pub stay_with_room : (xs : List (Row C)) (len : ℕ) (c : C) → len < length xs → length (unbeaten k (in_use len xs) c) < length xs
  stay_with_room xs len c free = omega (arith, unbeaten_few (in_use len xs) c, length-map (take len xs) entry_of, length-take len xs)

  pub added_few : (es : List (Entry C ℕ)) (x : Entry C ℕ) → covered k es x.cost ≡ false → length (added k es x) ≤ length es + 1
  added_few es x new = omega (arith, ap length (added_new es x new), length-placed k (unbeaten k es x.cost) x, unbeaten_few es x.cost)
