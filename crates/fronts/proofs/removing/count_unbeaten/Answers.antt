use Rattle.std.proofs.Common.{take, ◌∙◌, rules, tests}
use Rattle.std.proofs.lemmas.Iterator.{YieldsList-from_slice, YieldsList-from_take}
use Rattle.std.proofs.lemmas.Iterator.Consumers.{YieldsList-at, YieldsList-from_filter, count_from_yields_List}
use Rattle.fronts.proofs.Removals.{unbeaten_row}
use Rattle.fronts.proofs.Chains.{length_kept}
use Rattle.fronts.proofs.removing.count_unbeaten.Goals as goal

pub returns : goal.returns
returns g c =
    let kind = g.C.CostKind.kind in
    let rows = YieldsList-from_take {s = c.take.result} c.args.len (YieldsList-from_slice c.args.rows.now cc) c.take.ensures.count in
    count_from_yields_List c.filter.result c.count.result c.count.ensures.ran (YieldsList-from_filter _ (unbeaten_row kind c.args.cost) (YieldsList-at c.filter.ensures.source rows) c.filter.ensures.closure (λ x r q k. search (rules, tests)))
    ∙ length_kept kind c.args.cost (take c.args.len c.args.rows.now)
