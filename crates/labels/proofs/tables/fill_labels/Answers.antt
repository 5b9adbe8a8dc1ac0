use Rattle.std.proofs.Common.{◌≡◌, suc, ◌+◌, ◌≤◌, length, set, Some, None, sym, refl, ◌∙◌, subst, arith, rules}
use Rattle.std.proofs.lemmas.List.{get_or-set_same, length-set}
use Rattle.labels.specs.Queries.{asked}
use Rattle.labels.specs.Tables.{Hold, Filled, cells_before}
use Rattle.labels.proofs.Tabling.{hold_start, laid, ticks_all, ticks_full}
use Rattle.labels.proofs.tables.fill_labels.Goals as goal

pub loop-tick-init : goal.loop-tick-init
loop-tick-init g c =
    let a = asked g.F.Floor.moves g.C.CostKind.kind g.B.Constrains.constraint c.args.query.now in
    let starts = c.args.starts.now in
    let list = c.new-list.result in
    record {
      same = refl;
      long = length-set starts 0 0 ∙ c.told-starts;
      laid = refl;
      held = subst (Hold list.rows.now (set starts 0 0) (cells_before a 0)) (sym c.new-list.ensures.count) (hold_start a list.rows.now (set starts 0 0) (get_or-set_same starts 0 0 0 (omega (arith, c.told-starts))));
    }

pub fill_tick-requires-clause-laid : goal.fill_tick-requires-clause-laid
fill_tick-requires-clause-laid g c =
    let a = asked g.F.Floor.moves g.C.CostKind.kind g.B.Constrains.constraint c.args.query.now in
    laid a _ c.places-places.result c.places-places.ensures refl c.is_busy.ensures (omega (arith, c.loop-tick-test.true, c.requires.ticks)) (g.met.F.Floor.bounds c.args.query.now.floor.now).few_places

pub returns-in_err-fill_tick : goal.returns-in_err-fill_tick
returns-in_err-fill_tick g c =
    let a = asked g.F.Floor.moves g.C.CostKind.kind g.B.Constrains.constraint c.args.query.now in
    let rows = c.fill_tick.new.list.rows.now in
    let le : c.loop-tick.tick ≤ a.inst.horizon = omega (arith, c.loop-tick-test.true) in
    let same = c.in_err-fill_tick.ensures.lends.same ∙ c.loop-tick.invariant.same in
    subst (Filled a _ c.fill_tick.new.starts) (sym c.from_residual.ensures)
    (subst (λ rs. Filled a rs c.fill_tick.new.starts None) (search (rules, same)) (ticks_full a c.loop-tick.tick (length rows) le c.in_err-fill_tick.ensures.all))

pub loop-tick-preserved : goal.loop-tick-preserved
loop-tick-preserved g c =
    let a = asked g.F.Floor.moves g.C.CostKind.kind g.B.Constrains.constraint c.args.query.now in
    let on : suc c.loop-tick.tick ≡ c.loop-tick.tick + 1 = omega arith in
    let list = c.fill_tick.new.list in
    record {
      same = c.in_ok-fill_tick.ensures.lends.same ∙ c.loop-tick.invariant.same;
      long = c.fill_tick.array_long;
      laid = (omega arith, laid a _ c.places-places.result c.places-places.ensures refl c.is_busy.ensures (omega (arith, c.loop-tick-test.true, c.requires.ticks)) (g.met.F.Floor.bounds c.args.query.now.floor.now).few_places);
      held = subst (λ x. Hold list.rows.now c.fill_tick.new.starts (cells_before a x) list.count) on c.in_ok-fill_tick.ensures.all;
    }

pub returns : goal.returns
returns g c =
    let a = asked g.F.Floor.moves g.C.CostKind.kind g.B.Constrains.constraint c.args.query.now in
    let list = c.loop-tick.list in
    let same = c.loop-tick.invariant.same in
    let e : c.loop-tick.tick ≡ suc a.inst.horizon = omega (arith, c.loop-tick-test.false, c.loop-tick.auto) in
    subst (λ rs. Filled a rs c.loop-tick.starts (Some list.count)) (search (rules, same))
    (ticks_all a c.loop-tick.tick list.count list.rows.now c.loop-tick.starts e c.loop-tick.invariant.held)
