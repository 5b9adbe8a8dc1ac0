use Rattle.std.proofs.Common.{◌≡◌, map}
use Rattle.std.specs.List.{range_with_len}
use Rattle.floors.specs.Grids.{cell_moves}
use Rattle.floors.proofs.grid_floor.GridFloor.new.Given as goal

abbrev pub invariant-loop-place : goal.invariant-loop-place
invariant-loop-place l = l.table ≡ map (cell_moves l.grid.width l.grid.height l.grid.cells.now) (range_with_len 0 l.place)
