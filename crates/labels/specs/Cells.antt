-- Filling one cell: what stands in the tables meanwhile, and how a label is selected.
-- Assumes nothing.
use Rattle.std.specs.Prelude.{◌≡◌, ℕ, ◌+◌, ◌<◌, cond, List, [], length, drop, Option, slice_index_or}
use Rattle.rules.specs.Kinds.{Kind}
use Rattle.rules.specs.Instances.{price}
use Rattle.rules.specs.Offers.{Label}
use Rattle.labels.specs.declared.cell.Cell.{Cell}
use Rattle.charts.specs.declared.inbound.Inbound.{Inbound}
use Rattle.labels.specs.declared.row.LabelRow.{LabelRow}
use Rattle.charts.specs.Parts.{Part}
use Rattle.labels.specs.Picks.{picked, passed_over}
use Rattle.labels.specs.Queries.{Asked, row_of, place_count, may_take}
use Rattle.labels.specs.Rows.{shown, shown_best, extended_by}
use Rattle.labels.specs.Seeking.{barred_to}

-- the labels of each of the first n places of a row stand where the beginnings from base on say
abbrev pub Runs : {C : Type 0} → List ℕ → ℕ → List (Label C) → List (List (Label C)) → ℕ → Type 0
Runs starts base ls row n = (u : ℕ) → u < n → Part starts ls (base + u) (slice_index_or row u [])

-- the best so far, once the candidates have come, where the rows so far are the cell's from start on, and its last label costs last
abbrev pub Selects : {C : Type 0} → Kind C → List (LabelRow C) → ℕ → Option C → Option (LabelRow C) → List (Label C) → Option (LabelRow C) → Type 0
Selects k rows start last best candidates r = let ls = shown rows in shown_best ls r ≡ picked k (passed_over k last (drop start ls)) (shown_best ls best) candidates

module _ {C : Type 0} (a : Asked C) where
  -- what one move brings to the cell
  abbrev pub by_one : Cell → Inbound → List (Label C)
  by_one cell m = cond (may_take a m.from cell.place cell.tick) (extended_by a.inst.kind (price a.inst m.line) cell.place (slice_index_or (row_of a cell.tick) m.from [])) []

  -- while a cell is filled, the rows so far hold the labels of the tick before
  pub record Ready (cell : Cell) (rows : List (LabelRow C)) (starts : List ℕ) : Type 0 where
    pub table : cell.base + place_count a < length starts
    pub runs : Runs starts cell.base (shown rows) (row_of a cell.tick) (place_count a)
    pub barred : cell.barred ≡ barred_to a cell.place cell.tick
