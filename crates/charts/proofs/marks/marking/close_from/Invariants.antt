use Rattle.charts.proofs.Marking.{ClosedSoFar}
use Rattle.charts.proofs.marks.marking.close_from.Given as goal

abbrev pub invariant-loop-number : goal.invariant-loop-number
invariant-loop-number l = ClosedSoFar l.moves l.initial.closed l.from l.tick l.closed l.number
