use Rattle.std.proofs.Common.{◌≡◌, None}
use Rattle.labels.specs.Choices.{arrived, shown_lead}
use Rattle.labels.specs.Landings.{landed_from}
use Rattle.labels.specs.Picks.{picked, out_of_turn}
use Rattle.labels.specs.Rows.{shown}
use Rattle.labels.proofs.arrivals.Arrivals.offer_after.Given as goal

abbrev pub invariant-loop-tick : goal.invariant-loop-tick
invariant-loop-tick g l =
    let k = g.C.CostKind.kind in
    let x = l.self in
    let skip = out_of_turn k l.last (arrived x) in
    picked k skip (shown_lead l.best) (landed_from x.starts.now x.landing l.tick (shown x.rows.now)) ≡ picked k skip None (arrived x)
