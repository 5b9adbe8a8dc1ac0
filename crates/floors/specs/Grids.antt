-- What a grid of cells means. Its bytes stand row after row; 255 is a blocked cell, another byte the line paid on entering.
-- Assumes nothing.
use Rattle.std.specs.Prelude.{ℕ, ◌+◌, ◌-◌, ◌*◌, ◌/◌, ◌%◌, Bool, cond, ◌&&◌, List, [], ◌∷◌, map, length, Some, None, Option as Answer, ◌==◌, nat_lt, slice_index}
use Rattle.std.proofs.Math.Option.{Option, none, some}
use Rattle.std.specs.List.{range_with_len, flat_map}
use Rattle.rules.specs.Instances.{Move}
use Rattle.floors.specs.Refusals.{size_fits}
use Rattle.floors.specs.declared.side.Side.{Side}
use Rattle.floors.specs.declared.side.Side.TheVariants.{Above, Left, Right, Below, Here}

-- the order of a cell's moves: the last enters the cell itself, and so is a wait
abbrev pub sides : List Side
sides = Above ∷ (Left ∷ (Right ∷ (Below ∷ (Here ∷ []))))

-- the cell on one side of the cell in column x of row y, or none over the edge
abbrev pub neighbour : ℕ → ℕ → ℕ → ℕ → Side → Answer ℕ
neighbour width height x y Above = cond (nat_lt 0 y) (Some ((y - 1) * width + x)) None
neighbour width height x y Left = cond (nat_lt 0 x) (Some (y * width + (x - 1))) None
neighbour width height x y Right = cond (nat_lt (x + 1) width) (Some (y * width + (x + 1))) None
neighbour width height x y Below = cond (nat_lt (y + 1) height) (Some ((y + 1) * width + x)) None
neighbour width height x y Here = Some (y * width + x)

abbrev pub blocked : List ℕ → ℕ → Bool
blocked cells p = slice_index cells p == 255

-- the move that enters a cell, if there is the cell and it is open
abbrev pub entering : List ℕ → Answer ℕ → List Move
entering cells None = []
entering cells (Some p) = cond (blocked cells p) [] (record { to = p; line = slice_index cells p } ∷ [])

-- the move of cell p to one side, which is in column p % width of row p / width
abbrev pub side_moves : ℕ → ℕ → List ℕ → ℕ → Side → List Move
side_moves width height cells p side = entering cells (neighbour width height (p % width) (p / width) side)

-- a blocked cell has no moves
abbrev pub cell_moves : ℕ → ℕ → List ℕ → ℕ → List Move
cell_moves width height cells p = cond (blocked cells p) [] (flat_map (side_moves width height cells p) sides)

abbrev pub grid_moves : ℕ → ℕ → List ℕ → List (List Move)
grid_moves width height cells = map (cell_moves width height cells) (range_with_len 0 (width * height))

abbrev pub grid_refusal : ℕ → ℕ → List ℕ → Option (ℕ × List ℕ)
grid_refusal width height cells =
    cond (size_fits (width * height) && length cells == width * height) none (some (6, []))
