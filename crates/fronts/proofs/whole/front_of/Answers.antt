use Rattle.std.proofs.Common.{◌≡◌, length, ◌∙◌, arith, rules}
use Rattle.fronts.proofs.Taking.{taking_more, taking_outgrown, taking_whole}
use Rattle.fronts.proofs.whole.front_of.Goals as goal

pub loop-i-preserved : goal.loop-i-preserved
loop-i-preserved g c = (
  c.add.ensures.same ∙ c.loop-i.invariant.0,
  taking_more g.C.CostKind.kind c.args.given.now c.new-list.result.rows.now c.loop-i.list.rows.now c.add.new.self.rows.now c.loop-i.list.len c.add.new.self.len c.loop-i.i
      c.index-given-i.result c.add.result c.loop-i.invariant.1 c.loop-i-test.true c.index-given-i.is c.add.ensures.holds c.add.ensures.len c.in_default.not-NoRow,
)

pub returns-in-NoRow : goal.returns-in-NoRow
returns-in-NoRow g c = (
  c.loop-i.i,
  taking_outgrown g.C.CostKind.kind c.args.given.now g.met.C.CostKind.laws c.new-list.result.rows.now c.loop-i.list.rows.now c.add.new.self.rows.now _ c.loop-i.list.len c.loop-i.i
      c.index-given-i.result c.loop-i.invariant.1 c.loop-i-test.true c.index-given-i.is c.in-NoRow.ensures.holds (search rules),
)

pub returns : goal.returns
returns g c =
    let done : c.loop-i.i ≡ length c.args.given.now = omega arith in
    taking_whole g.C.CostKind.kind c.args.given.now g.met.C.CostKind.laws c.args.rows.now c.new-list.result.rows.now c.loop-i.list.rows.now _ c.loop-i.list.len c.used.result c.loop-i.i
    c.loop-i.invariant.1 done c.used.ensures c.new-list.ensures.rows (search rules)
