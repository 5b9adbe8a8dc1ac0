use Rattle.std.proofs.Common.{◌≡◌, [], map, replicate}
use Rattle.floors.proofs.Tables.{held}
use Rattle.floors.proofs.move_table.MoveTable.empty.Given as goal

abbrev pub invariant-loop : goal.invariant-loop
invariant-loop l = map held l.lists.items ≡ replicate l.counter []
