-- The tables of one cart's labels: the rows, and where each cell begins.
-- Assumes nothing.
use Rattle.std.specs.Prelude.{◌≡◌, ℕ, zero, suc, ◌+◌, ◌<◌, ◌≤◌, List, [], ◌++◌, length, take, Some, None, Option}
use Rattle.rules.specs.Offers.{Label, joined_lists, total_length}
use Rattle.labels.specs.declared.layer.Layer.{Layer}
use Rattle.labels.specs.declared.list.LabelList.{LabelList}
use Rattle.labels.specs.declared.row.LabelRow.{LabelRow}
use Rattle.charts.specs.Parts.{Marked}
use Rattle.labels.specs.Lists.{Lends, count_if}
use Rattle.labels.specs.Queries.{Asked, row_of, place_count, label_total}
use Rattle.labels.specs.Rows.{shown}
use Rattle.labels.specs.Seeking.{busy_at}

-- the first n rows hold the labels of the cells, one cell after another, and the starts say where each cell begins, and the last one ends
pub record Hold {C : Type 0} (rows : List (LabelRow C)) (starts : List ℕ) (cells : List (List (Label C))) (n : ℕ) : Type 0 where
  pub within : n ≤ length rows
  pub labels : shown (take n rows) ≡ joined_lists cells
  pub marks : Marked starts cells

abbrev pub HeldIf : {C : Type 0} → List (LabelRow C) → List ℕ → List (List (Label C)) → Option ℕ → Type 0
HeldIf rows starts cells None = length rows < total_length cells
HeldIf rows starts cells (Some n) = Hold rows starts cells n

-- a list still lends the same rows, and holds the cells, unless there is no room for their labels
pub record Holding {C : Type 0} (was after : LabelList C) (starts : List ℕ) (cells : List (List (Label C))) (r : Option (Unit {0})) : Type 0 where
  pub lends : Lends was after
  pub all : HeldIf after.rows.now starts cells (count_if after r)

-- the cells of the ticks before t, place by place
unfoldable pub cells_before : {C : Type 0} → Asked C → ℕ → List (List (Label C))
cells_before a zero = []
cells_before a (suc t) = cells_before a t ++ row_of a t

module _ {C : Type 0} (a : Asked C) where
  -- all cells
  abbrev pub all_cells : List (List (Label C))
  all_cells = cells_before a (suc a.inst.horizon)

  -- all labels of the cart are held, unless there is no room for them
  abbrev pub Filled : List (LabelRow C) → List ℕ → Option ℕ → Type 0
  Filled rows starts None = length rows < label_total a
  Filled rows starts (Some n) = (n ≡ label_total a) × Hold rows starts all_cells n

  -- what a layer says of its tick
  pub record Laid (layer : Layer) : Type 0 where
    pub busy : layer.busy ≡ busy_at a layer.tick
    pub base : layer.base ≡ length (cells_before a layer.tick)
    pub room : layer.base + place_count a < 8321

  -- what one says of the tick before t, if there is any
  abbrev pub LaidBefore : ℕ → Option Layer → Type 0
  LaidBefore t None = t ≡ 0
  LaidBefore t (Some layer) = (t ≡ suc layer.tick) × Laid layer
