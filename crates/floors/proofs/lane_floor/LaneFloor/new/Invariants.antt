use Rattle.floors.proofs.LaneTables.{Read}
use Rattle.floors.proofs.lane_floor.LaneFloor.new.Given as goal

abbrev pub invariant-loop-row : goal.invariant-loop-row
invariant-loop-row l = Read l.places l.rows l.floor.table l.row-index
