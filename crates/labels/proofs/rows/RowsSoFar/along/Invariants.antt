use Rattle.std.proofs.Common.{◌≡◌, ◌+◌, take, drop}
use Rattle.labels.specs.Picks.{picked, passed_over}
use Rattle.labels.specs.Rows.{shown, shown_best, extended_by}
use Rattle.labels.proofs.rows.RowsSoFar.along.Given as goal

abbrev pub invariant-loop-i : goal.invariant-loop-i
invariant-loop-i g l =
    let ls = shown l.self.rows.now in
    let k = g.C.CostKind.kind in
    picked k (passed_over k l.self.last (drop l.self.start ls)) (shown_best ls l.best) (extended_by k l.price l.place (drop (l.from + l.i) (take l.to ls)))
    ≡ picked k (passed_over k l.self.last (drop l.self.start ls)) (shown_best ls l.initial.best) (extended_by k l.price l.place (drop l.from (take l.to ls)))
