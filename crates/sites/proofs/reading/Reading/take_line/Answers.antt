use Rattle.std.proofs.Common.{arith}
use Rattle.sites.proofs.NextRecord.{line_took}
use Rattle.sites.proofs.reading.Reading.take_line.Goals as goal

pub returns : goal.returns
returns c before k =
    let admitted = c.in_ok-admit.ensures in
    line_took c.args.rooms before c.args.self k c.args.total c.args.worst admitted.0 (omega (arith, c.saturating_sub.ensures))
