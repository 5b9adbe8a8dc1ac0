use Rattle.std.proofs.Common.{◌≡◌, length}
use Rattle.labels.specs.Queries.{asked}
use Rattle.labels.specs.Tables.{Hold, LaidBefore, cells_before}
use Rattle.labels.proofs.tables.fill_labels.Given as goal

abbrev pub invariant-loop-tick : goal.invariant-loop-tick
invariant-loop-tick g l =
    let a = asked g.F.Floor.moves g.C.CostKind.kind g.B.Constrains.constraint l.query in
    record {
      same : l.list.rows.ghost_name ≡ l.initial.list.rows.ghost_name;
      long : length l.starts ≡ 8321;
      laid : LaidBefore a l.tick l.before;
      held : Hold l.list.rows.now l.starts (cells_before a l.tick) l.list.count;
    }
