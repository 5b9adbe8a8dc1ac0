use Rattle.fronts.proofs.Removals.{Removing, unbeaten_row}
use Rattle.fronts.proofs.removing.remove_beaten.Given as goal

-- the rows so far that stay are the first n, and what stands from n on is as it was
abbrev pub invariant-loop-i : goal.invariant-loop-i
invariant-loop-i g l =
    Removing (unbeaten_row g.C.CostKind.kind l.cost) l.initial.rows l.rows l.n l.i
