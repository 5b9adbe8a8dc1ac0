use Rattle.std.proofs.Common.{◌≡◌, ◌-◌, drop}
use Rattle.labels.specs.Choices.{arrived, shown_lead}
use Rattle.labels.specs.Landings.{run_of, standing}
use Rattle.labels.specs.Picks.{picked, out_of_turn}
use Rattle.labels.specs.Rows.{shown}
use Rattle.labels.proofs.arrivals.Arrivals.by_tick.Given as goal

abbrev pub invariant-loop-at : goal.invariant-loop-at
invariant-loop-at g l =
    let k = g.C.CostKind.kind in
    let x = l.self in
    let skip = out_of_turn k l.last (arrived x) in
    let run = run_of x.starts.now x.landing l.tick (shown x.rows.now) in
    picked k skip (shown_lead l.best) (standing (x.landing.horizon - l.tick) x.landing.goal (drop l.at run)) ≡ picked k skip (shown_lead l.initial.best) (standing (x.landing.horizon - l.tick) x.landing.goal run)
