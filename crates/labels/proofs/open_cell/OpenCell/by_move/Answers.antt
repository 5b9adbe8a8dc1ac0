use Rattle.std.proofs.Common.{arith}
use Rattle.labels.proofs.Showing.{length-shown}
use Rattle.labels.proofs.open_cell.OpenCell.by_move.Goals as goal

pub along-requires-clause-within : goal.along-requires-clause-within
along-requires-clause-within g c =
    let open_cell = c.args.self.now in
    omega (arith, (open_cell.ready.runs c.args.step.from c.requires).within, length-shown open_cell.so_far.rows.now)
