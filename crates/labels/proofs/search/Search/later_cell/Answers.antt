use Rattle.std.proofs.Common.{false, true, length, take, subst, arith}
use Rattle.labels.specs.Lists.{Grown}
use Rattle.labels.specs.Queries.{asked, row_of}
use Rattle.labels.proofs.Tabling.{later_cell, runs_before, table_before, grown_none}
use Rattle.labels.proofs.search.Search.later_cell.Goals as goal

pub returns-then-not-may_be : goal.returns-then-not-may_be
returns-then-not-may_be g c =
    let a = asked g.F.Floor.moves g.C.CostKind.kind g.B.Constrains.constraint c.args.self.now.query.now in
    grown_none c.args.list.now _ (later_cell a c.args.layer.tick c.args.before.tick c.args.place false c.requires.laid_before.0 c.requires.place c.if-not-may_be.ensures)

pub fill_front-requires-clause-ready : goal.fill_front-requires-clause-ready
fill_front-requires-clause-ready g c =
    let a = asked g.F.Floor.moves g.C.CostKind.kind g.B.Constrains.constraint c.args.self.now.query.now in
    let layer = c.args.layer in
    let before = c.args.before in
    let next = c.requires.laid_before.0 in
    let base = c.requires.laid_before.1.base in
    record {
      table = table_before a layer.tick before.tick layer.base before.base (length c.args.starts.now) next c.requires.laid.base base (omega (arith, c.told-starts, c.requires.laid.room));
      runs = runs_before a layer.tick before.tick before.base c.args.list.now.rows.now c.args.starts.now (take c.args.place (row_of a layer.tick)) c.args.list.now.count next base c.requires.held;
      barred = c.is_barred.ensures;
    }

pub returns : goal.returns
returns g c =
    let a = asked g.F.Floor.moves g.C.CostKind.kind g.B.Constrains.constraint c.args.self.now.query.now in
    let cell = later_cell a c.args.layer.tick c.args.before.tick c.args.place true c.requires.laid_before.0 c.requires.place c.if-not-may_be.ensures in
    subst (λ l. Grown c.args.list.now c.fill_front.new.list l c.fill_front.result) cell c.fill_front.ensures
