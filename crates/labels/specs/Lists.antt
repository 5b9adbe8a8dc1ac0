-- Lists of labels, in lent rows.
-- Assumes nothing.
use Rattle.std.specs.Prelude.{◌≡◌, ℕ, ◌+◌, ◌<◌, ◌≤◌, List, ◌++◌, length, take, Some, None, Option}
use Rattle.std.specs.Option.{option_map}
use Rattle.rules.specs.Offers.{Label}
use Rattle.labels.specs.declared.list.LabelList.{LabelList}
use Rattle.labels.specs.declared.row.LabelRow.{LabelRow}
use Rattle.labels.specs.Rows.{shown}

-- after the first n rows stand those of the labels, unless there is no room for all of them
abbrev pub Extended : {C : Type 0} → List (LabelRow C) → List (LabelRow C) → ℕ → List (Label C) → Option ℕ → Type 0
Extended was after n ls None = length was < n + length ls
Extended was after n ls (Some m) = (m ≤ length after) × (shown (take m after) ≡ shown (take n was) ++ ls)

module _ {C : Type 0} where
  -- the labels that a list holds
  abbrev pub listed : LabelList C → List (Label C)
  listed l = shown (take l.count l.rows.now)

  -- how many there are, where a step went well
  abbrev pub count_if : LabelList C → Option (Unit {0}) → Option ℕ
  count_if l r = option_map (λ u. l.count) r

  -- a list still lends the same rows
  pub record Lends (was after : LabelList C) : Type 0 where
    pub same : after.rows.ghost_name ≡ was.rows.ghost_name
    pub long : length after.rows.now ≡ length was.rows.now

  -- a list has the labels more, unless there is no room for all of them
  pub record Grown (was after : LabelList C) (ls : List (Label C)) (r : Option (Unit {0})) : Type 0 where
    pub lends : Lends was after
    pub more : Extended was.rows.now after.rows.now was.count ls (count_if after r)
