-- What rows of labels say: each has a cost and a place, and goes on from an earlier row, its parent, or from none.
-- Assumes nothing.
use Rattle.std.specs.Prelude.{ℕ, List, [], ◌∷◌, ◌++◌, map, Option, slice_index_or}
use Rattle.std.specs.Option.{option_map}
use Rattle.rules.specs.Kinds.{Kind}
use Rattle.rules.specs.Offers.{Label}
use Rattle.labels.specs.declared.row.LabelRow.{LabelRow}

module _ {C : Type 0} where
  -- the places of the label at n, the latest first, and none where there is no such label
  abbrev pub trace_at : List (Label C) → ℕ → List ℕ
  trace_at ls n = slice_index_or (map (λ l. l.item) ls) n []

  -- a row, after the labels that it may go on from
  abbrev pub shown_row : List (Label C) → LabelRow C → Label C
  shown_row ls r = record { cost = r.cost; item = r.place ∷ trace_at ls r.parent }

  abbrev pub shown_from : List (Label C) → List (LabelRow C) → List (Label C)
  shown_from ls [] = ls
  shown_from ls (r ∷ rs) = shown_from (ls ++ shown_row ls r ∷ []) rs

  unfoldable pub shown : List (LabelRow C) → List (Label C)
  shown rs = shown_from [] rs

  abbrev pub shown_best : List (Label C) → Option (LabelRow C) → Option (Label C)
  shown_best ls o = option_map (shown_row ls) o

-- labels, one move on
abbrev pub extended_by : {C : Type 0} → Kind C → C → ℕ → List (Label C) → List (Label C)
extended_by k price to ls = map (λ l. record { cost = k.join l.cost price; item = to ∷ l.item }) ls
