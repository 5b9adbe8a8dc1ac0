use Rattle.std.proofs.Common.{◌≡◌}
use Rattle.fronts.proofs.Taking.{Taking}
use Rattle.fronts.proofs.whole.front_of.Given as goal

-- the list holds the front of the rows so far, over the same slice
abbrev pub invariant-loop-i : goal.invariant-loop-i
invariant-loop-i g l =
    (l.list.rows.ghost_name ≡ l.initial.list.rows.ghost_name)
    × Taking g.C.CostKind.kind l.given l.initial.list.rows.now l.list.rows.now l.list.len l.i
