use Rattle.std.proofs.lemmas.Result.{err_from_is_err_and}
use Rattle.floors.specs.declared.lane_row.LaneRow.{LaneRow}
use Rattle.floors.proofs.LaneTables.{read_all, read_more, read_none, read_refused}
use Rattle.floors.proofs.lane_floor.LaneFloor.new.Goals as goal

abbrev blank : LaneRow
blank = record { from = 0; to = 0; line = 0 }

pub loop-row-init : goal.loop-row-init
loop-row-init c =
    let made = c.in_ok-floor.ensures in
    read_none c.args.places c.args.rows.now _ made.refusal made.moves

pub loop-row-preserved : goal.loop-row-preserved
loop-row-preserved c =
    let added = c.in_ok-add_lane.ensures in
    read_more c.args.places c.args.rows.now c.loop-row.floor.table c.loop-row.row-index blank
    c.loop-row-test.true c.loop-row.invariant c.add_lane.new.self.table added.refusal added.moves

pub returns-in_err-add_lane : goal.returns-in_err-add_lane
returns-in_err-add_lane c =
    let p = err_from_is_err_and c.from_residual-in_err-add_lane.result c.from_residual-in_err-add_lane.ensures.1 in
    let first = read_refused c.args.places c.args.rows.now c.loop-row.floor.table c.loop-row.row-index blank
    c.loop-row-test.true c.loop-row.invariant _ c.in_err-add_lane.ensures.refusal in
    rw (p.1, p.2) (record { refusal = first; moves = tt })

pub returns : goal.returns
returns c =
    let all = read_all c.args.places c.args.rows.now c.loop-row.floor.table c.loop-row.row-index c.loop-row-test.false c.loop-row.invariant in
    record { refusal = all.0; moves = all.1 }
