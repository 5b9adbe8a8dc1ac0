-- A list in parts: where each begins, and the last one ends.
-- Assumes nothing.
use Rattle.std.specs.Prelude.{◌≡◌, ℕ, ◌+◌, ◌≤◌, List, length, take, drop, slice_index, slice_index_or}
use Rattle.rules.specs.Offers.{total_length}

-- where each part begins, and the last one ends
pub record Marked {X : Type 0} (begins : List ℕ) (parts : List (List X)) : Type 0 where
  pub at : (n : ℕ) → n ≤ length parts → slice_index begins n ≡ total_length (take n parts)

-- part number n of xs stands from its beginning to the next one's
pub record Part {X : Type 0} (begins : List ℕ) (xs : List X) (n : ℕ) (part : List X) : Type 0 where
  pub up : slice_index_or begins n 0 ≤ slice_index begins (n + 1)
  pub within : slice_index_or begins (n + 1) 0 ≤ length xs
  pub same : drop (slice_index begins n) (take (slice_index begins (n + 1)) xs) ≡ part
