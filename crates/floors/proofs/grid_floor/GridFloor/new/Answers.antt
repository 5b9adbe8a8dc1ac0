use Rattle.std.proofs.Common.{◌≡◌, ℕ, ◌*◌, ◌≤◌, List, [], ◌∷◌, ◌++◌, map, length, sym, ap, ◌∙◌, subst, arith}
use Rattle.std.specs.List.{range_with_len}
use Rattle.std.proofs.lemmas.List.FromFn.{length-map-range_with_len, map-range_with_len_more}
use Rattle.rules.specs.Instances.{Move}
use Rattle.floors.specs.declared.grid.Grid.{Grid}
use Rattle.floors.specs.Floors.{FloorBounds}
use Rattle.floors.specs.Grids.{cell_moves, grid_moves}
use Rattle.floors.proofs.Bounds.{grid_bounds}
use Rattle.floors.proofs.grid_floor.GridFloor.new.Goals as goal

pub moves_from-requires : goal.moves_from-requires
moves_from-requires c = omega (arith, c.in_ok-grid.grid.whole, ap length c.in_ok-grid.ensures.same.2, c.loop-place-test.true)

pub add_place-requires : goal.add_place-requires
add_place-requires c =
    let grid = c.in_ok-grid.grid in
    let so_far = ap length c.loop-place.invariant ∙ length-map-range_with_len (cell_moves grid.width grid.height grid.cells.now) 0 c.loop-place.place in
    omega (arith, grid.few_cells, grid.whole, ap length c.in_ok-grid.ensures.same.2, c.loop-place-test.true, so_far)

pub loop-place-preserved : goal.loop-place-preserved
loop-place-preserved c =
    let grid = c.in_ok-grid.grid in
    let f = cell_moves grid.width grid.height grid.cells.now in
    let place = c.loop-place.place in
    c.add_place.ensures
    ∙ ap (λ ms. c.loop-place.table ++ ms ∷ []) c.moves_from.ensures
    ∙ ap (λ t. t ++ f place ∷ []) c.loop-place.invariant
    ∙ sym (map-range_with_len_more f 0 place place (omega arith))

-- every cell has its moves
all_cells : (grid : Grid) (cells : List ℕ) (table : List (List Move)) (place : ℕ) → grid.cells.now ≡ cells → place ≤ length cells → length cells ≤ place → table ≡ map (cell_moves grid.width grid.height grid.cells.now) (range_with_len 0 place)
    → table ≡ grid_moves grid.width grid.height grid.cells.now
all_cells grid cells table place same le ge so_far =
    let end : place ≡ grid.width * grid.height = omega (arith, grid.whole, ap length same, le, ge) in
    so_far ∙ ap (λ n. map (cell_moves grid.width grid.height grid.cells.now) (range_with_len 0 n)) end

pub invariant_of-result : goal.invariant_of-result
invariant_of-result c =
    let grid = c.in_ok-grid.grid in
    let all = all_cells grid c.args.cells.now c.loop-place.table c.loop-place.place c.in_ok-grid.ensures.same.2 c.loop-place.auto.place-end c.loop-place-test.false c.loop-place.invariant in
    record { bounds = subst FloorBounds (sym all) (grid_bounds grid.width grid.height grid.cells.now grid.some_cell grid.few_cells) }

pub returns : goal.returns
returns c =
    let grid = c.in_ok-grid.grid in
    let same = c.in_ok-grid.ensures.same in
    let all = all_cells grid c.args.cells.now c.loop-place.table c.loop-place.place same.2 c.loop-place.auto.place-end c.loop-place-test.false c.loop-place.invariant in
    record {
      refusal = c.in_ok-grid.ensures.refusal;
      moves = all ∙ ap (λ w. grid_moves w grid.height grid.cells.now) same.0 ∙ ap (λ h. grid_moves c.args.width h grid.cells.now) same.1 ∙ ap (grid_moves c.args.width c.args.height) same.2;
    }
