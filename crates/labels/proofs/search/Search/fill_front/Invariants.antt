use Rattle.std.proofs.Common.{◌-◌, length}
use Rattle.rules.specs.Fronts.{front_of}
use Rattle.labels.specs.Lists.{Lends}
use Rattle.labels.specs.Queries.{asked, reaching}
use Rattle.labels.proofs.Filling.{Filling}
use Rattle.labels.proofs.search.Search.fill_front.Given as goal

abbrev pub invariant-loop-row : goal.invariant-loop-row
invariant-loop-row g l =
    let k = g.C.CostKind.kind in
    record {
      lends : Lends l.initial.list l.list;
      filling : Filling l.initial.list.rows.now l.list.rows.now l.initial.list.count l.list.count (front_of k (reaching (asked g.F.Floor.moves k g.B.Constrains.constraint l.self.query.now) l.cell.tick l.cell.place));
    }

abbrev pub decreases-loop-row : goal.decreases-loop-row
decreases-loop-row g l = length l.initial.list.rows.now - l.list.count
