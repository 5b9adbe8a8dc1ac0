use Rattle.std.proofs.Common.{suc, ◌+◌, ◌-◌, ◌∙◌, arith, rules, tests}
use Rattle.std.specs.List.{range_with_len}
use Rattle.std.proofs.lemmas.Iterator.{YieldsList-from_range}
use Rattle.std.proofs.lemmas.Iterator.Search.{any_from_yields_List}
use Rattle.labels.proofs.Offering.{tick_dominates, ticks_dominate}
use Rattle.labels.proofs.arrivals.Arrivals.is_dominated.Goals as goal

pub returns : goal.returns
returns g c =
    let x = c.args.self.now in
    let k = g.C.CostKind.kind in
    let n = suc x.landing.horizon - x.landing.first in
    any_from_yields_List (tick_dominates k c.args.c x.rows.now x.starts.now x.landing) _ _ c.any.result c.any.ensures.ran
    (YieldsList-from_range x.landing.first (x.landing.horizon + 1) n (cc) (omega arith))
    (λ t b f q. search (rules, tests))
    ∙ ticks_dominate k c.args.c x.rows.now x.starts.now x.landing (range_with_len x.landing.first n)
