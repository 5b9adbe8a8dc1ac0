use Rattle.std.proofs.Common.{Some, None, sym, ◌∙◌, subst, arith}
use Rattle.rules.specs.Fronts.{front_of}
use Rattle.labels.specs.Cells.{Ready}
use Rattle.labels.specs.Lists.{Grown}
use Rattle.labels.specs.Queries.{asked, reaching}
use Rattle.labels.proofs.Filling.{filling_ready, selects_next, filled_on, filled_more, filled_full, filled_done}
use Rattle.labels.proofs.search.Search.fill_front.Goals as goal

pub loop-row-smaller : goal.loop-row-smaller
loop-row-smaller g c =
    let k = g.C.CostKind.kind in
    let a = asked g.F.Floor.moves k g.B.Constrains.constraint c.args.self.now.query.now in
    let was = c.args.list.now in
    let f = c.loop-row.invariant.filling in
    omega (arith, filled_on k g.met.C.CostKind.laws (reaching a c.args.cell.tick c.args.cell.place) was.rows.now c.loop-row.list.rows.now was.count c.loop-row.list.count was.within f c.in-Some.row c.push.new.self.rows.now c.push.new.self.count c.in_ok-push.ensures.more, c.in_ok-push.ensures.more.0, c.in_ok-push.ensures.lends.long, c.loop-row.invariant.lends.long)

pub loop-row-preserved : goal.loop-row-preserved
loop-row-preserved g c =
    let k = g.C.CostKind.kind in
    let a = asked g.F.Floor.moves k g.B.Constrains.constraint c.args.self.now.query.now in
    let xs = reaching a c.args.cell.tick c.args.cell.place in
    let laws = g.met.C.CostKind.laws in
    let was = c.args.list.now in
    let now = c.loop-row.list in
    let f = c.loop-row.invariant.filling in
    let so_far = c.so_far.result in
    let next = selects_next k laws xs was.rows.now now.rows.now was.count now.count was.within f (Some c.in-Some.row) so_far.rows.now so_far.start so_far.last c.so_far.ensures.rows c.so_far.ensures.start c.so_far.ensures.last c.in-Some.ensures in
    record {
      lends = record { same = c.in_ok-push.ensures.lends.same ∙ c.loop-row.invariant.lends.same; long = c.in_ok-push.ensures.lends.long ∙ c.loop-row.invariant.lends.long };
      filling = filled_more k laws xs was.rows.now now.rows.now was.count now.count was.within f c.in-Some.row c.push.new.self.rows.now c.push.new.self.count next c.in_ok-push.ensures.more;
    }

pub returns-in_err-push : goal.returns-in_err-push
returns-in_err-push g c =
    let k = g.C.CostKind.kind in
    let a = asked g.F.Floor.moves k g.B.Constrains.constraint c.args.self.now.query.now in
    let xs = reaching a c.args.cell.tick c.args.cell.place in
    let laws = g.met.C.CostKind.laws in
    let was = c.args.list.now in
    let now = c.loop-row.list in
    let f = c.loop-row.invariant.filling in
    let so_far = c.so_far.result in
    let next = selects_next k laws xs was.rows.now now.rows.now was.count now.count was.within f (Some c.in-Some.row) so_far.rows.now so_far.start so_far.last c.so_far.ensures.rows c.so_far.ensures.start c.so_far.ensures.last c.in-Some.ensures in
    subst (Grown was c.push.new.self (front_of k xs)) (sym c.from_residual.ensures)
    (record {
      lends = record { same = c.in_err-push.ensures.lends.same ∙ c.loop-row.invariant.lends.same; long = c.in_err-push.ensures.lends.long ∙ c.loop-row.invariant.lends.long };
      more = omega (arith, filled_full k laws xs was.rows.now now.rows.now was.count now.count was.within f c.in-Some.row next (sym c.loop-row.invariant.lends.long) c.in_err-push.ensures.more);
    })

pub returns : goal.returns
returns g c =
    let k = g.C.CostKind.kind in
    let a = asked g.F.Floor.moves k g.B.Constrains.constraint c.args.self.now.query.now in
    let xs = reaching a c.args.cell.tick c.args.cell.place in
    let laws = g.met.C.CostKind.laws in
    let was = c.args.list.now in
    let now = c.loop-row.list in
    let f = c.loop-row.invariant.filling in
    let so_far = c.so_far.result in
    let next = selects_next k laws xs was.rows.now now.rows.now was.count now.count was.within f None so_far.rows.now so_far.start so_far.last c.so_far.ensures.rows c.so_far.ensures.start c.so_far.ensures.last c.in_default.ensures in
    record { lends = c.loop-row.invariant.lends; more = filled_done k laws xs was.rows.now now.rows.now was.count now.count was.within f next }

pub invariant_of-next_label : goal.invariant_of-next_label
invariant_of-next_label g c =
    let k = g.C.CostKind.kind in
    let cell = c.args.cell in
    let a = asked g.F.Floor.moves k g.B.Constrains.constraint c.args.self.now.query.now in
    let was = c.args.list.now in
    let now = c.loop-row.list in
    record {
      reached = c.moves_to-moves.ensures ∙ c.args.self.now.indexed cell.place;
      place = c.requires.place;
      ready = subst (λ rows. Ready a cell rows c.args.starts.now) (sym c.so_far.ensures.rows) (filling_ready a cell was.rows.now now.rows.now c.args.starts.now was.count now.count (front_of k (reaching a cell.tick cell.place)) c.requires.ready c.loop-row.invariant.filling);
    }
