-- The cells of a grid: where a neighbour stands, and the moves of a cell, side by side.
-- Assumes nothing.
use Rattle.std.proofs.Common.{◌≡◌, ℕ, ◌+◌, ◌-◌, ◌*◌, ◌/◌, ◌%◌, ◌<◌, ◌≤◌, List, [], ◌++◌, map, get_or, take, Some, None, Option, sym, refl, ap, ◌∙◌, inl, inr, mul-le-mul_right, mul_comm, add-mul, one-mul, zero-mul, arith}
use Rattle.std.specs.List.{flat_map}
use Rattle.std.specs.Option.{option_map, option_to_list}
use Rattle.std.proofs.lemmas.Nat.{div-add-mod', div_below, mod_below}
use Rattle.std.proofs.lemmas.List.{flat_map_more, map-append, take_more}
use Rattle.std.proofs.lemmas.Bool.{cases_lt}
use Rattle.rules.specs.Instances.{Move}
use Rattle.floors.specs.declared.side.Side.{Side}
use Rattle.floors.specs.declared.side.Side.TheVariants.{Above}
use Rattle.floors.specs.declared.step.Step.{Step}
use Rattle.floors.specs.Floors.{move_of}
use Rattle.floors.specs.Grids.{sides}

-- the cell p of a grid

wide : (width height p : ℕ) → p < width * height → 0 < width
wide width height p h = elim (cases_lt 0 width) [
  | inl lt ↦ lt
  | inr le ↦
      let z : width ≡ 0 = omega arith in
      let none : width * height ≡ 0 = ap (λ w. w * height) z ∙ zero-mul height in
      absurd (omega arith)
]

one_more : (y width : ℕ) → (y + 1) * width ≡ y * width + width
one_more y width = add-mul y 1 width ∙ ap (λ n. y * width + n) (one-mul width)

row_ends : (width height y : ℕ) → y < height → y * width + width ≤ width * height
row_ends width height y h =
    let le : y + 1 ≤ height = omega arith in
    omega (arith, mul-le-mul_right width le, one_more y width, mul_comm height width)

module _ (width height p : ℕ) (inside : p < width * height) where
  abbrev x : ℕ
  x = p % width

  abbrev y : ℕ
  y = p / width

  stands : y * width + x ≡ p
  stands = div-add-mod' p width

  pub cell_above : 0 < y → (width ≤ p) × (p - width ≡ (y - 1) * width + x) × ((y - 1) * width + x < width * height)
  cell_above h =
      let e : y - 1 + 1 ≡ y = omega arith in
      let rows : (y - 1) * width + width ≡ y * width = sym (one_more (y - 1) width) ∙ ap (λ n. n * width) e in
      let at = stands in
      (omega arith, omega arith, omega arith)

  pub cell_here : y * width + x < width * height
  cell_here = let at = stands in omega arith

  pub cell_left : 0 < x → (1 ≤ p) × (p - 1 ≡ y * width + (x - 1)) × (y * width + (x - 1) < width * height)
  cell_left h = let at = stands in (omega arith, omega arith, omega arith)

  pub cell_right : x + 1 < width → (p + 1 ≡ y * width + (x + 1)) × (p + 1 < width * height)
  cell_right h =
      let at = stands in
      let in_height : y < height = div_below p width height (wide width height p inside) (rw (mul_comm height width) inside) in
      let end = row_ends width height y in_height in
      (omega arith, omega arith)

  pub cell_below : y + 1 < height → (p + width ≡ (y + 1) * width + x) × (p + width < width * height)
  cell_below h =
      let at = stands in
      let in_width : x < width = mod_below p width (wide width height p inside) in
      let end = row_ends width height (y + 1) h in
      let rows = one_more y width in
      (omega arith, omega arith)

-- one cell's moves, side by side

sided : (r : Option Step) → option_to_list (option_map move_of r) ≡ map move_of (option_to_list r)
sided None = refl
sided (Some s) = refl

pub side_more : (f : Side → List Move) (items more : List Step) (r : Option Step) (i : ℕ) → i < 5 → option_to_list (option_map move_of r) ≡ f (get_or sides i Above) → more ≡ items ++ option_to_list r
    → map move_of items ≡ flat_map f (take i sides) → map move_of more ≡ flat_map f (take (i + 1) sides)
side_more f items more r i lt one e so_far =
    ap (map move_of) e ∙ map-append move_of items (option_to_list r) ∙ ap (λ ms. map move_of items ++ ms) (sym (sided r) ∙ one) ∙ ap (λ ms. ms ++ f (get_or sides i Above)) so_far
    ∙ flat_map_more f [] (take i sides) (get_or sides i Above) ∙ ap (flat_map f) (sym (take_more sides i Above lt))
