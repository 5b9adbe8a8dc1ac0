use Rattle.std.proofs.Common.{◌+◌, ◌≤◌, sym, ap, ◌∙◌, arith}
use Rattle.labels.specs.Choices.{arrived, shown_lead}
use Rattle.labels.specs.Landings.{landed_from}
use Rattle.labels.specs.Picks.{picked, out_of_turn}
use Rattle.labels.specs.Rows.{shown}
use Rattle.labels.proofs.Offering.{arrivals-at, arrivals_end}
use Rattle.labels.proofs.arrivals.Arrivals.offer_after.Goals as goal

pub loop-tick-preserved : goal.loop-tick-preserved
loop-tick-preserved g c =
    let k = g.C.CostKind.kind in
    let x = c.args.self.now in
    let skip = out_of_turn k c.args.last (arrived x) in
    let le : c.loop-tick.tick ≤ x.landing.horizon = omega (arith, c.loop-tick-test.true) in
    ap (λ o. picked k skip o (landed_from x.starts.now x.landing (c.loop-tick.tick + 1) (shown x.rows.now))) c.by_tick-best.ensures
    ∙ sym (arrivals-at k skip x.landing x.starts.now c.loop-tick.tick (shown x.rows.now) (shown_lead c.loop-tick.best) le)
    ∙ c.loop-tick.invariant

pub returns : goal.returns
returns g c =
    let k = g.C.CostKind.kind in
    let x = c.args.self.now in
    let skip = out_of_turn k c.args.last (arrived x) in
    sym (arrivals_end k skip x.landing x.starts.now c.loop-tick.tick (shown x.rows.now) (shown_lead c.loop-tick.best) (omega (arith, c.loop-tick-test.false))) ∙ c.loop-tick.invariant
