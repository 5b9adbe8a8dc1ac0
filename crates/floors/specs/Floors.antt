-- What every floor shows of its moves.
-- Assumes nothing.
use Rattle.std.specs.Prelude.{◌<◌, ◌≤◌, List, length, Some, None, Option as Answer}
use Rattle.std.proofs.Math.Option.{Option, none, some}
use Rattle.std.specs.List.{AllByRecursion}
use Rattle.rules.specs.Instances.{Move}
use Rattle.floors.specs.declared.step.Step.{Step}

-- a move as the code holds it
abbrev pub move_of : Step → Move
move_of s = record { to = s.to; line = s.line }

abbrev pub step_option : Answer Step → Option Move
step_option None = none
step_option (Some s) = some (move_of s)

pub record FloorBounds (moves : List (List Move)) : Type 0 where
  pub some_place : 1 ≤ length moves
  pub few_places : length moves ≤ 128
  pub few_moves : AllByRecursion (λ ms. length ms ≤ 8) moves
  pub moves_inside : AllByRecursion (AllByRecursion (λ m. m.to < length moves)) moves
