use Rattle.std.proofs.Common.{◌≡◌, ◌≤◌, map, length, take}
use Rattle.std.specs.List.{flat_map}
use Rattle.floors.specs.Floors.{move_of}
use Rattle.floors.specs.Grids.{side_moves, sides}
use Rattle.floors.proofs.grid.Grid.moves_from.Given as goal

abbrev pub invariant-loop-side : goal.invariant-loop-side
invariant-loop-side l = record {
  few : length l.moves.items ≤ l.side-index;
  so_far : map move_of l.moves.items ≡ flat_map (side_moves l.self.width l.self.height l.self.cells.now l.place) (take l.side-index sides);
}
