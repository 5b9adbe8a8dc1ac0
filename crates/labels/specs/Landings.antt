-- The labels that arrive, as the tables hold them.
-- Assumes nothing.
use Rattle.std.specs.Prelude.{ℕ, suc, ◌+◌, ◌-◌, ◌*◌, ◌<◌, ◌≤◌, List, ◌++◌, map, length, take, drop, replicate, slice_index}
use Rattle.std.specs.List.{range_with_len}
use Rattle.rules.specs.Offers.{Label, joined_lists}
use Rattle.labels.specs.declared.landing.Landing.{Landing}
use Rattle.labels.specs.declared.row.LabelRow.{LabelRow}

-- the number of the goal's cell at tick t
abbrev pub cell_of : Landing → ℕ → ℕ
cell_of l t = t * l.places + l.goal

-- what stands in that cell
abbrev pub run_of : {X : Type 0} → List ℕ → Landing → ℕ → List X → List X
run_of starts l t xs = drop (slice_index starts (cell_of l t)) (take (slice_index starts (cell_of l t + 1)) xs)

-- labels, after n ticks at g
abbrev pub standing : {C : Type 0} → ℕ → ℕ → List (Label C) → List (Label C)
standing n g ls = map (λ l. record { cost = l.cost; item = replicate n g ++ l.item }) ls

-- the labels that arrive at tick t or later and stand to the horizon
abbrev pub landed_from : {C : Type 0} → List ℕ → Landing → ℕ → List (Label C) → List (Label C)
landed_from starts l t ls = joined_lists (map (λ s. standing (l.horizon - s) l.goal (run_of starts l s ls)) (range_with_len t (suc l.horizon - t)))

abbrev pub landed : {C : Type 0} → List ℕ → Landing → List (Label C) → List (Label C)
landed starts l ls = landed_from starts l l.first ls

-- the goal's cells stand in the tables
pub record Lands {C : Type 0} (rows : List (LabelRow C)) (starts : List ℕ) (l : Landing) : Type 0 where
  pub few : length rows ≤ 65535
  pub ticks : l.horizon ≤ 64
  pub table : (t : ℕ) → t ≤ l.horizon → cell_of l t + 1 < length starts
  pub up : (t : ℕ) → t ≤ l.horizon → slice_index starts (cell_of l t) ≤ slice_index starts (cell_of l t + 1)
  pub within : (t : ℕ) → t ≤ l.horizon → slice_index starts (cell_of l t + 1) ≤ length rows
