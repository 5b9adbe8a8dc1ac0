use Rattle.std.proofs.Common.{◌≡◌, ◌<◌, min, not, length, sym, ap, arith}
use Rattle.fronts.proofs.Removals.{removing_stays, removing_goes, removed_holds}
use Rattle.fronts.proofs.removing.remove_beaten.Goals as goal
use Rattle.fronts.proofs.removing.remove_beaten.Goals.{then-not-at_most, else-not-at_most}

pub loop-i-preserved : goal.loop-i-preserved
loop-i-preserved g c =
    let within : c.loop-i.i < length c.loop-i.rows = omega arith in
    elim c.if-not-at_most.branch [
      | then-not-at_most w ↦ rw (w.rows-is, w.n-is) (removing_stays c.loop-i.invariant within (ap not (sym w.if-not-at_most.ensures)) c.index-rows-i.is)
      | else-not-at_most w ↦ rw (w.rows-is, w.n-is) (removing_goes c.loop-i.invariant within (ap not (sym w.if-not-at_most.ensures)) c.index-rows-i.is)
    ]

pub returns : goal.returns
returns g c =
    let all : c.loop-i.i ≡ min c.args.len (length c.args.rows.now) = omega arith in
    removed_holds g.C.CostKind.kind c.args.cost c.args.rows.now c.loop-i.rows c.args.len c.loop-i.n c.loop-i.i c.loop-i.invariant all
