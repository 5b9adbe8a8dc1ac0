-- How the moves of a floor grow.
-- Assumes nothing.
use Rattle.std.specs.Prelude.{ℕ, List, [], ◌++◌, slice_index_or, slice_set}
use Rattle.rules.specs.Instances.{Move}

-- a floor's moves with some more from one place, after those that it has
abbrev pub extended : List (List Move) → ℕ → List Move → List (List Move)
extended moves place more = slice_set moves place (slice_index_or moves place [] ++ more)
