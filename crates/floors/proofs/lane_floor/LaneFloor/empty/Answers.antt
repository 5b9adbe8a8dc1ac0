use Rattle.std.proofs.Common.{sym, ap, ◌∙◌, subst, rules}
use Rattle.floors.specs.Floors.{FloorBounds}
use Rattle.floors.specs.Lanes.{lane_count}
use Rattle.floors.proofs.Bounds.{none_bounds}
use Rattle.floors.proofs.LaneTables.{count_none}
use Rattle.floors.proofs.lane_floor.LaneFloor.empty.Goals as goal

pub invariant_of-result : goal.invariant_of-result
invariant_of-result c = record {
  counted = sym (ap lane_count c.empty.ensures ∙ count_none c.args.places);
  bounds = subst FloorBounds (sym c.empty.ensures) (none_bounds c.args.places (search rules) (search rules));
}
