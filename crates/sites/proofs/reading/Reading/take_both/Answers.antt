use Rattle.std.proofs.Common.{arith}
use Rattle.std.proofs.lemmas.Result.{err_from_is_err_and}
use Rattle.sites.proofs.NextRecord.{both_took, both_first_refused}
use Rattle.sites.proofs.reading.Reading.take_both.Goals as goal

pub returns-in_err-add_lane : goal.returns-in_err-add_lane
returns-in_err-add_lane c =
    let p = err_from_is_err_and c.from_residual-in_err-add_lane.result c.from_residual-in_err-add_lane.ensures.1 in
    let admitted = c.in_ok-admit.ensures in
    rw (p.1, p.2)
    (λ before k. both_first_refused c.args.rooms before c.args.self k c.args.row admitted.0 (omega (arith, c.saturating_sub.ensures)) c.in_err-add_lane.field-0.0 c.in_err-add_lane.ensures.taken)

pub returns : goal.returns
returns c before k =
    let admitted = c.in_ok-admit.ensures in
    both_took c.args.rooms before c.args.self k c.args.row admitted.0 (omega (arith, c.saturating_sub.ensures))
    c.in_ok-add_lane.field-0 c.in_ok-add_lane.ensures.taken c.add_lane-2.result (rw (← c.back.ensures) c.add_lane-2.ensures.taken) c.add_lane-2.ensures.kept
