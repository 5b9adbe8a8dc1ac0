use Rattle.std.proofs.Common.{refl}
use Rattle.charts.proofs.Marking.{barred_cell}
use Rattle.charts.proofs.marks.Marks.shut_cell.Goals as goal

pub returns-then-tick-le64 : goal.returns-then-tick-le64
returns-then-tick-le64 c = barred_cell c.args.self.now _ c.args.place c.args.tick c.if-place-self.true c.if-tick-le64.true refl refl refl refl (rw (c.from.ensures, c.from-then-tick-le64.ensures, c.from-then-tick-le64-2.ensures) refl)
