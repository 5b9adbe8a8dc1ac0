use Rattle.std.proofs.Common.{◌≡◌, drop, None}
use Rattle.labels.specs.Picks.{picked, passed_over}
use Rattle.labels.specs.Queries.{asked, reaching}
use Rattle.labels.specs.Rows.{shown, shown_best}
use Rattle.labels.proofs.Moving.{by_all}
use Rattle.labels.proofs.open_cell.OpenCell.next_label.Given as goal

abbrev pub invariant-loop-step : goal.invariant-loop-step
invariant-loop-step g l =
    let k = g.C.CostKind.kind in
    let cell = l.self.cell in
    let a = asked g.F.Floor.moves k g.B.Constrains.constraint l.self.search.now.query.now in
    let ls = shown l.self.so_far.rows.now in
    let skip = passed_over k l.self.so_far.last (drop l.self.so_far.start ls) in
    picked k skip (shown_best ls l.best) (by_all a cell (drop l.step-index l.step-items)) ≡ picked k skip None (reaching a cell.tick cell.place)
