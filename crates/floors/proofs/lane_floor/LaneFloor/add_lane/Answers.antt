use Rattle.std.proofs.Common.{sym, ap, ◌∙◌, subst, arith}
use Rattle.floors.specs.Floors.{FloorBounds}
use Rattle.floors.specs.Lanes.{lane_count}
use Rattle.floors.proofs.Bounds.{extended_bounds}
use Rattle.floors.proofs.LaneTables.{count_extended, count_few, fits_from, fits_to, fits_room}
use Rattle.floors.proofs.lane_floor.LaneFloor.add_lane.Goals as goal

pub overflow_cast-row : goal.overflow_cast-row
overflow_cast-row c =
    let floor = c.args.self.now in
    omega (arith, floor.bounds.few_places, fits_from floor.table c.args.row (sym c.if-not-takes.ensures))

pub overflow_cast-row-2 : goal.overflow_cast-row-2
overflow_cast-row-2 c =
    let floor = c.args.self.now in
    omega (arith, floor.bounds.few_places, fits_to floor.table c.args.row (sym c.if-not-takes.ensures))

pub overflow_add-self : goal.overflow_add-self
overflow_add-self c =
    let floor = c.args.self.now in
    omega (arith, floor.counted, count_few floor.table floor.bounds)

pub invariant_of-self : goal.invariant_of-self
invariant_of-self c =
    let floor = c.args.self.now in
    let row = c.args.row in
    let fits = sym c.if-not-takes.ensures in
    let from = fits_from floor.table row fits in
    record {
      counted = omega (arith, floor.counted, ap lane_count c.push.ensures ∙ count_extended floor.table row.from _ from);
      bounds = subst FloorBounds (sym c.push.ensures) (extended_bounds floor.table row.from _ from (fits_to floor.table row fits) (fits_room floor.table row fits) floor.bounds);
    }
