use Rattle.sites.proofs.LineReads.{ReadSoFar}
use Rattle.sites.proofs.lines.numbers.Given as goal

abbrev pub invariant-loop-number : goal.invariant-loop-number
invariant-loop-number g l = ReadSoFar l.bytes l.rest g.row.N l.number-items l.number-index
