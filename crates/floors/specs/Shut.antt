-- The moves of a floor with one place shut.
-- Assumes nothing.
use Rattle.std.specs.Prelude.{◌≡◌, ℕ, ◌<◌, ◌≤◌, List, [], length, slice_index_or, slice_set}
use Rattle.std.proofs.Common.{sym, subst, inl, inr, arith}
use Rattle.std.specs.List.{AllByRecursion}
use Rattle.std.proofs.ByRecursion.{All-set}
use Rattle.std.proofs.lemmas.List.{get_or_past, get_or-set_same, length-set}
use Rattle.std.proofs.lemmas.Bool.{cases_lt}
use Rattle.rules.specs.Instances.{Move}
use Rattle.floors.specs.Floors.{FloorBounds}

pub shut_bounds : (moves : List (List Move)) (p : ℕ) → FloorBounds moves → FloorBounds (slice_set moves p [])
shut_bounds moves p b =
    let same : length (slice_set moves p []) ≡ length moves = length-set moves p [] in
    record {
      some_place = omega (arith, b.some_place);
      few_places = omega (arith, b.few_places);
      few_moves = All-set (λ ms. length ms ≤ 8) moves p [] (omega arith) b.few_moves;
      moves_inside =
          subst (λ n. AllByRecursion (AllByRecursion (λ m. m.to < n)) (slice_set moves p [])) (sym same) (All-set (AllByRecursion (λ m. m.to < length moves)) moves p [] tt b.moves_inside);
    }

-- the shut place has no moves, nor has an absent one
pub shut_place : (moves : List (List Move)) (p q : ℕ) → q ≡ p → slice_index_or (slice_set moves p []) q [] ≡ []
shut_place moves p q e = elim (cases_lt p (length moves)) [
  | inl lt ↦ rw e (get_or-set_same moves p [] [] lt)
  | inr ge ↦ get_or_past (slice_set moves p []) q [] (omega (arith, length-set moves p []))
]
