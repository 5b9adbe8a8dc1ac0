use Rattle.std.proofs.Common.{take, ◌∙◌, rules, tests}
use Rattle.std.proofs.lemmas.Iterator.{YieldsList-from_slice, YieldsList-from_take}
use Rattle.std.proofs.lemmas.Iterator.Search.{any_from_yields_List}
use Rattle.fronts.proofs.Chains.{any_covers}
use Rattle.fronts.proofs.covering.covers.Goals as goal

pub returns : goal.returns
returns g c =
    let kind = g.C.CostKind.kind in
    let rows = YieldsList-from_take c.args.len (YieldsList-from_slice c.args.rows.now cc) c.take.ensures.count in
    any_from_yields_List (λ r. kind.at_most r.cost c.args.cost) _ _ c.any.result c.any.ensures.ran rows (λ x b q k. search (rules, tests)) ∙ any_covers kind c.args.cost (take c.args.len c.args.rows.now)
