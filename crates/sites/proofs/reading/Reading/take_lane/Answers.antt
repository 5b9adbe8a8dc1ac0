use Rattle.std.proofs.Common.{arith}
use Rattle.sites.proofs.NextRecord.{lane_took}
use Rattle.sites.proofs.reading.Reading.take_lane.Goals as goal

pub returns : goal.returns
returns c before k =
    let admitted = c.in_ok-admit.ensures in
    lane_took c.args.rooms before c.args.self k c.args.row admitted.0 (omega (arith, c.saturating_sub.ensures)) c.add_lane.result c.add_lane.ensures.taken c.add_lane.ensures.kept
