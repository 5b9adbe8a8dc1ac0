use Rattle.std.proofs.Common.{length, sym, refl, arith}
use Rattle.fronts.specs.Rows.{entry_of, in_use}
use Rattle.fronts.proofs.Additions.{added_too_long, stay_with_room}
use Rattle.fronts.proofs.adding.add.Goals as goal
use Rattle.fronts.proofs.adding.add.Goals.{else-len-rows-via-then-len-rows+else-count_unbeaten-rows, else-len-rows-via-else-len-rows}

pub returns-then-count_unbeaten-rows : goal.returns-then-count_unbeaten-rows
returns-then-count_unbeaten-rows g c =
    let new = sym c.if-covers.ensures in
    (new, added_too_long g.C.CostKind.kind (in_use c.args.len c.args.rows.now) (entry_of c.args.row) (length c.args.rows.now) new (omega arith), refl)

pub put-requires : goal.put-requires
put-requires g c =
    let stay = c.remove_beaten-stay.ensures in
    elim c.else-len-rows.branch [
      | else-len-rows-via-then-len-rows+else-count_unbeaten-rows w ↦ omega (arith, stay.count, stay.long, w.count_unbeaten.ensures, w.if-count_unbeaten-rows.false)
      | else-len-rows-via-else-len-rows w ↦
          let room = stay_with_room g.C.CostKind.kind c.args.rows.now c.args.len c.args.row.cost (omega (arith, w.if-len-rows.false)) in omega (arith, stay.count, stay.long, room)
    ]
