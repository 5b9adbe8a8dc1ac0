use Rattle.std.proofs.Common.{◌≡◌, ◌+◌, ◌<◌, get_or, length, drop, None, sym, ap, ◌∙◌, subst, arith}
use Rattle.std.proofs.ByRecursion.{All-get_or}
use Rattle.charts.specs.declared.inbound.Inbound.{Inbound}
use Rattle.charts.specs.Indexes.{inbound_of}
use Rattle.labels.specs.Picks.{picked, passed_over}
use Rattle.labels.specs.Queries.{asked}
use Rattle.labels.specs.Rows.{shown, shown_best}
use Rattle.charts.proofs.Indexing.{inbound_inside}
use Rattle.labels.proofs.Moving.{by_all, reaching_is, moves_at}
use Rattle.labels.proofs.open_cell.OpenCell.next_label.Goals as goal

pub loop-step-init : goal.loop-step-init
loop-step-init g c =
    let k = g.C.CostKind.kind in
    let open_cell = c.args.self.now in
    let cell = open_cell.cell in
    let a = asked g.F.Floor.moves k g.B.Constrains.constraint open_cell.search.now.query.now in
    let ls = shown open_cell.so_far.rows.now in
    let pick = picked k (passed_over k open_cell.so_far.last (drop open_cell.so_far.start ls)) None in
    ap (λ l. pick (by_all a cell l)) open_cell.reached ∙ ap pick (sym (reaching_is a cell))

pub by_move-best-requires : goal.by_move-best-requires
by_move-best-requires g c =
    let search = c.args.self.now.search.now in
    let moves = g.F.Floor.moves search.query.now.floor.now in
    let place = c.args.self.now.cell.place in
    let ms = c.args.self.now.moves.now in
    let e : ms ≡ inbound_of moves place = c.args.self.now.reached in
    let none : Inbound = record { from = 0; line = 0 } in
    let at = c.loop-step.step-index in
    let inside : at < length (inbound_of moves place) = omega (arith, c.loop-step-test.true, ap length e) in
    subst (λ l. (get_or l at none).from < length moves) (sym e) (All-get_or (λ m. m.from < length moves) (inbound_of moves place) at none inside (inbound_inside moves place))

pub loop-step-preserved : goal.loop-step-preserved
loop-step-preserved g c =
    let k = g.C.CostKind.kind in
    let open_cell = c.args.self.now in
    let cell = open_cell.cell in
    let a = asked g.F.Floor.moves k g.B.Constrains.constraint open_cell.search.now.query.now in
    let ls = shown open_cell.so_far.rows.now in
    let skip = passed_over k open_cell.so_far.last (drop open_cell.so_far.start ls) in
    let ms = open_cell.moves.now in
    let step = moves_at a cell skip (shown_best ls c.loop-step.best) ms c.loop-step.step-index (record { from = 0; line = 0 }) c.loop-step-test.true in
    ap (λ o. picked k skip o (by_all a cell (drop (c.loop-step.step-index + 1) ms))) c.by_move-best.ensures ∙ sym step ∙ c.loop-step.invariant
