use Rattle.std.proofs.Common.{◌≡◌, ◌++◌, length, take}
use Rattle.labels.specs.Lists.{Lends}
use Rattle.labels.specs.Queries.{asked, row_of}
use Rattle.labels.specs.Tables.{Hold, cells_before}
use Rattle.labels.proofs.search.Search.fill_tick.Given as goal

abbrev pub invariant-loop-place : goal.invariant-loop-place
invariant-loop-place g l =
    let a = asked g.F.Floor.moves g.C.CostKind.kind g.B.Constrains.constraint l.self.query.now in
    record {
      lends : Lends l.initial.list l.list;
      long : length l.starts ≡ 8321;
      held : Hold l.list.rows.now l.starts (cells_before a l.layer.tick ++ take l.place (row_of a l.layer.tick)) l.list.count;
    }
