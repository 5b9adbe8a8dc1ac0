use Rattle.std.proofs.Common.{◌-◌, ap, ◌∙◌, length, take, drop, rules, tests}
use Rattle.std.specs.List.{list_any}
use Rattle.std.proofs.lemmas.List.{take_rest}
use Rattle.labels.specs.declared.row.LabelRow.{LabelRow}
use Rattle.std.proofs.lemmas.Iterator.{YieldsList-from_slice}
use Rattle.std.proofs.lemmas.Iterator.Search.{any_from_yields_List}
use Rattle.labels.proofs.Showing.{covered_shown}
use Rattle.labels.proofs.rows.RowsSoFar.covers.Goals as goal

pub returns : goal.returns
returns g c =
    let k = g.C.CostKind.kind in
    let so_far = c.args.self.now in
    let own = take (length so_far.rows.now - so_far.start) (drop so_far.start so_far.rows.now) in
    let test = λ (r : LabelRow g.row.C.Denot). k.at_most r.cost c.args.c in
    any_from_yields_List test _ _ c.any.result c.any.ensures.ran (YieldsList-from_slice own cc) (λ x b r k. search (rules, tests)) ∙ ap (list_any test) (take_rest so_far.rows.now so_far.start) ∙ covered_shown k so_far.rows.now so_far.start c.args.c
