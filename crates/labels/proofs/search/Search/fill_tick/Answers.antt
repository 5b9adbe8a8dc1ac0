use Rattle.std.proofs.Common.{suc, ◌+◌, ◌<◌, ◌≤◌, length, sym, ◌∙◌, subst, arith}
use Rattle.std.proofs.lemmas.List.{length-set}
use Rattle.labels.specs.Queries.{asked, place_count}
use Rattle.labels.specs.Tables.{Holding, cells_before}
use Rattle.labels.proofs.Tabling.{tick_more, tick_all, tick_full, lends_on}
use Rattle.labels.proofs.search.Search.fill_tick.Goals as goal

pub returns-in_err-fill_cell : goal.returns-in_err-fill_cell
returns-in_err-fill_cell g c =
    let a = asked g.F.Floor.moves g.C.CostKind.kind g.B.Constrains.constraint c.args.self.now.query.now in
    let now = c.loop-place.list in
    let lt : c.loop-place.place < place_count a = omega (arith, c.loop-place-test.true, c.places-place-end.ensures) in
    let full = tick_full a c.args.layer.tick c.loop-place.place now.rows.now c.fill_cell.new.list.rows.now c.loop-place.starts now.count lt c.loop-place.invariant.held c.in_err-fill_cell.ensures.more in
    subst (Holding c.args.list.now c.fill_cell.new.list c.loop-place.starts (cells_before a (suc c.args.layer.tick))) (sym c.from_residual.ensures)
    (record { lends = lends_on _ _ _ c.loop-place.invariant.lends c.in_err-fill_cell.ensures.lends; all = omega (arith, full, c.in_err-fill_cell.ensures.lends.long) })

pub loop-place-preserved : goal.loop-place-preserved
loop-place-preserved g c =
    let a = asked g.F.Floor.moves g.C.CostKind.kind g.B.Constrains.constraint c.args.self.now.query.now in
    let now = c.loop-place.list in
    let on = c.fill_cell.new.list in
    let lt : c.loop-place.place < place_count a = omega (arith, c.loop-place-test.true, c.places-place-end.ensures) in
    let room : c.args.layer.base + place_count a < length c.loop-place.starts = omega (arith, c.loop-place.invariant.long, c.requires.laid.room) in
    record {
      lends = lends_on _ _ _ c.loop-place.invariant.lends c.in_ok-fill_cell.ensures.lends;
      long = length-set c.loop-place.starts (c.args.layer.base + c.loop-place.place + 1) on.count ∙ c.loop-place.invariant.long;
      held = tick_more a c.args.layer.tick c.loop-place.place now.rows.now on.rows.now c.loop-place.starts c.args.layer.base now.count on.count lt c.requires.laid.base room c.loop-place.invariant.held c.in_ok-fill_cell.ensures.more;
    }

pub returns : goal.returns
returns g c =
    let a = asked g.F.Floor.moves g.C.CostKind.kind g.B.Constrains.constraint c.args.self.now.query.now in
    let now = c.loop-place.list in
    let le : place_count a ≤ c.loop-place.place = omega (arith, c.loop-place-test.false, c.places-place-end.ensures) in
    record { lends = c.loop-place.invariant.lends; all = tick_all a c.args.layer.tick c.loop-place.place now.rows.now c.loop-place.starts now.count le c.loop-place.invariant.held }
