-- That the moves of a floor keep its bounds: those of none, of a grid, and of one lane more.
-- Assumes nothing.
use Rattle.std.proofs.Common.{◌≡◌, ℕ, zero, suc, ◌+◌, ◌*◌, ◌/◌, ◌%◌, ◌<◌, ◌≤◌, ltb, List, [], ◌∷◌, ◌++◌, map, length, get_or, replicate, Some, None, Option, IfSome, sym, subst, arith}
use Rattle.std.specs.List.{range_with_len, flat_map, AllByRecursion}
use Rattle.std.proofs.ByRecursion.{All-append, All-get_or, All-set}
use Rattle.std.proofs.lemmas.List.{length-append, length_push, length-replicate, length-set}
use Rattle.std.proofs.lemmas.List.FromFn.{length-map-range_with_len}
use Rattle.std.proofs.lemmas.Bool.{cond_both, ltb-true}
use Rattle.rules.specs.Instances.{Move}
use Rattle.floors.specs.declared.side.Side.{Side}
use Rattle.floors.specs.declared.side.Side.TheVariants.{Above, Left, Right, Below, Here}
use Rattle.floors.specs.Floors.{FloorBounds}
use Rattle.floors.specs.Grids.{blocked, cell_moves, entering, grid_moves, neighbour, side_moves, sides}
use Rattle.floors.specs.MoveTables.{extended}
use Rattle.floors.proofs.Cells.{cell_above, cell_left, cell_right, cell_below, cell_here}

-- one move more

pub extended_bounds : (moves : List (List Move)) (p : ℕ) (m : Move) → p < length moves → m.to < length moves → length (get_or moves p []) < 8 → FloorBounds moves → FloorBounds (extended moves p (m ∷ []))
extended_bounds moves p m from to room b =
    let more = get_or moves p [] ++ m ∷ [] in
    let same : length (extended moves p (m ∷ [])) ≡ length moves = length-set moves p more in
    let inside : AllByRecursion (λ (x : Move). x.to < length moves) more = All-append (λ (x : Move). x.to < length moves) (get_or moves p []) (m ∷ []) (All-get_or _ moves p [] from b.moves_inside) (to, tt) in
    record {
      some_place = omega (arith, b.some_place, same);
      few_places = omega (arith, b.few_places, same);
      few_moves = All-set (λ ms. length ms ≤ 8) moves p more (omega (arith, room, length_push (get_or moves p []) m)) b.few_moves;
      moves_inside = subst (λ n. AllByRecursion (AllByRecursion (λ (x : Move). x.to < n)) (extended moves p (m ∷ []))) (sym same) (All-set (AllByRecursion (λ (x : Move). x.to < length moves)) moves p more inside b.moves_inside);
    }

-- no move

all_same : {X : Type 0} (P : X → Type 0) (n : ℕ) (x : X) → P x → AllByRecursion P (replicate n x)
all_same P zero x h = tt
all_same P (suc n) x h = (h, all_same P n x h)

pub none_bounds : (n : ℕ) → 1 ≤ n → n ≤ 128 → FloorBounds (replicate n [])
none_bounds n some few = record {
  some_place = omega (arith, some, length-replicate {A = List Move} n []);
  few_places = omega (arith, few, length-replicate {A = List Move} n []);
  few_moves = all_same (λ ms. length ms ≤ 8) n [] (omega arith);
  moves_inside = all_same (AllByRecursion (λ (m : Move). m.to < length (replicate {A = List Move} n []))) n [] tt;
}

-- a grid

all_made : {X : Type 0} (P : X → Type 0) (f : ℕ → X) (a n : ℕ) → ((j : ℕ) → j < a + n → P (f j)) → AllByRecursion P (map f (range_with_len a n))
all_made P f a zero h = tt
all_made P f a (suc n) h = (h a (omega arith), all_made P f (a + 1) n (λ j lt. h j (omega arith)))

all_flat : {X A : Type 0} (P : A → Type 0) (f : X → List A) → ((x : X) → AllByRecursion P (f x)) → (xs : List X) → AllByRecursion P (flat_map f xs)
all_flat P f h [] = tt
all_flat P f h (x ∷ xs) = All-append P (f x) (flat_map f xs) (h x) (all_flat P f h xs)

pub entering_few : (cells : List ℕ) (to : Option ℕ) → length (entering cells to) ≤ 1
entering_few cells None = omega arith
entering_few cells (Some p) = cond_both (blocked cells p) [] _ (λ ms. length ms ≤ 1) (λ e. omega arith) (λ e. omega arith)

joined_few : {X A : Type 0} (f : X → List A) → ((x : X) → length (f x) ≤ 1) → (xs : List X) → length (flat_map f xs) ≤ length xs
joined_few f h [] = omega arith
joined_few f h (x ∷ xs) = omega (arith, length-append (f x) (flat_map f xs), h x, joined_few f h xs)

entering_inside : (n : ℕ) (cells : List ℕ) (to : Option ℕ) → IfSome to (λ p. p < n) → AllByRecursion (λ (m : Move). m.to < n) (entering cells to)
entering_inside n cells None h = tt
entering_inside n cells (Some p) h = cond_both (blocked cells p) [] (record { to = p; line = get_or cells p 0 } ∷ []) (AllByRecursion (λ (m : Move). m.to < n)) (λ e. tt) (λ e. (h, tt))

module _ (width height : ℕ) (cells : List ℕ) where
  pub neighbour_inside : (p : ℕ) → p < width * height → (side : Side) → IfSome (neighbour width height (p % width) (p / width) side) (λ q. q < width * height)
  neighbour_inside p lt Above = cond_both (ltb 0 (p / width)) (Some _) None (λ o. IfSome o (λ q. q < width * height)) (λ e. omega (arith, cell_above width height p lt (ltb-true _ _ e))) (λ e. tt)
  neighbour_inside p lt Left = cond_both (ltb 0 (p % width)) (Some _) None (λ o. IfSome o (λ q. q < width * height)) (λ e. omega (arith, cell_left width height p lt (ltb-true _ _ e))) (λ e. tt)
  neighbour_inside p lt Right = cond_both (ltb (p % width + 1) width) (Some _) None (λ o. IfSome o (λ q. q < width * height)) (λ e. omega (arith, cell_right width height p lt (ltb-true _ _ e))) (λ e. tt)
  neighbour_inside p lt Below = cond_both (ltb (p / width + 1) height) (Some _) None (λ o. IfSome o (λ q. q < width * height)) (λ e. omega (arith, cell_below width height p lt (ltb-true _ _ e))) (λ e. tt)
  neighbour_inside p lt Here = omega (arith, cell_here width height p lt)

  cell_few : (p : ℕ) → length (cell_moves width height cells p) ≤ 8
  cell_few p =
      cond_both (blocked cells p) [] (flat_map (side_moves width height cells p) sides) (λ ms. length ms ≤ 8) (λ e. omega arith)
      (λ e. omega (arith, joined_few (side_moves width height cells p) (λ side. entering_few cells (neighbour width height (p % width) (p / width) side)) sides))

  cell_inside : (p : ℕ) → p < width * height → AllByRecursion (λ (m : Move). m.to < width * height) (cell_moves width height cells p)
  cell_inside p lt =
      cond_both (blocked cells p) [] (flat_map (side_moves width height cells p) sides) (AllByRecursion (λ (m : Move). m.to < width * height)) (λ e. tt)
      (λ e. all_flat (λ (m : Move). m.to < width * height) (side_moves width height cells p) (λ side. entering_inside (width * height) cells _ (neighbour_inside p lt side)) sides)

  pub grid_bounds : 1 ≤ width * height → width * height ≤ 128 → FloorBounds (grid_moves width height cells)
  grid_bounds some few =
      let n = width * height in
      let long : length (grid_moves width height cells) ≡ n = length-map-range_with_len (cell_moves width height cells) 0 n in
      record {
        some_place = omega (arith, some, long);
        few_places = omega (arith, few, long);
        few_moves = all_made (λ ms. length ms ≤ 8) (cell_moves width height cells) 0 n (λ p lt. cell_few p);
        moves_inside =
            subst (λ k. AllByRecursion (AllByRecursion (λ (m : Move). m.to < k)) (grid_moves width height cells)) (sym long)
            (all_made (AllByRecursion (λ (m : Move). m.to < n)) (cell_moves width height cells) 0 n (λ p lt. cell_inside p (omega arith)));
      }
