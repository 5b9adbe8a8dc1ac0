-- A lane table read row by row: its meaning, its count and its first refusal, one row on.
-- Assumes nothing.
use Rattle.std.proofs.Common.{◌≡◌, ℕ, zero, suc, ◌+◌, ◌<◌, ◌≤◌, Bool, true, false, cond, eqb, List, [], ◌∷◌, ◌++◌, map, length, get_or, take, drop, replicate, filter, sym, refl, ap, ◌∙◌, inl, inr, arith}
use mathlib.Core.Option.{none, some}
use Rattle.std.specs.List.{range_with_len}
use Rattle.std.proofs.lemmas.List.FromFn.{get_or-map-range_with_len, length-map-range_with_len}
use Rattle.std.proofs.lemmas.List.Elements.{filter-append}
use Rattle.std.proofs.lemmas.List.{append-nil, at_drop_all, drop_more, ext_get_or, get_or-set_other, get_or-set_same, length_push, length-set, length-take-le, map_push, take_all, take_more}
use Rattle.std.proofs.lemmas.List.Sums.{sum_by-cons, sum_by-set}
use Rattle.std.proofs.ByRecursion.{sum_by_le}
use Rattle.std.proofs.lemmas.Bool.{and_parts, cases_eq, cond-false, cond-true, eq-eqb, ltb-true, ne_eqb}
use Rattle.rules.specs.Instances.{Move}
use Rattle.floors.specs.declared.lane_row.LaneRow.{LaneRow}
use Rattle.floors.specs.Floors.{FloorBounds}
use Rattle.floors.specs.Lanes.{lane_count, lane_fits, lane_moves, lane_refusal, row_move, row_refusal, rows_refusal}
use Rattle.floors.specs.MoveTables.{extended}
use Rattle.floors.specs.Refusals.{size_refusal}

-- how many lanes there are

pub count_none : (n : ℕ) → lane_count (replicate n []) ≡ 0
count_none zero = refl
count_none (suc n) = sum_by-cons length [] (replicate n []) ∙ rw (count_none n) refl

pub count_extended : (moves : List (List Move)) (p : ℕ) (m : Move) → p < length moves → lane_count (extended moves p (m ∷ [])) ≡ lane_count moves + 1
count_extended moves p m h =
    let more = length_push (get_or moves p []) m in
    let both = sum_by-set length moves p (get_or moves p [] ++ m ∷ []) [] h in
    omega arith

pub count_few : (moves : List (List Move)) → FloorBounds moves → lane_count moves ≤ 1024
count_few moves b = let few = sum_by_le length 8 moves b.few_moves in omega arith

-- what a table means

abbrev rows_from : List LaneRow → ℕ → List LaneRow
rows_from rows p = filter (λ r. eqb r.from p) rows

abbrev moves_from : List LaneRow → ℕ → List Move
moves_from rows p = map row_move (rows_from rows p)

pub none_from : (a n : ℕ) → map (moves_from []) (range_with_len a n) ≡ replicate n []
none_from a zero = refl
none_from a (suc n) = ap (λ ms. [] ∷ ms) (none_from (a + 1) n)

from_here : (rows : List LaneRow) (r : LaneRow) (p : ℕ) → p ≡ r.from → moves_from (rows ++ r ∷ []) p ≡ moves_from rows p ++ row_move r ∷ []
from_here rows r p e =
    let one : rows_from (r ∷ []) p ≡ r ∷ [] = cond-true _ _ _ (eq-eqb r.from p (sym e)) in
    ap (map row_move) (filter-append (λ r. eqb r.from p) rows (r ∷ []) ∙ ap (λ rs. rows_from rows p ++ rs) one)
    ∙ map_push row_move (rows_from rows p) r

from_elsewhere : (rows : List LaneRow) (r : LaneRow) (p : ℕ) → (p ≡ r.from → ⊥) → moves_from (rows ++ r ∷ []) p ≡ moves_from rows p
from_elsewhere rows r p ne =
    let one : rows_from (r ∷ []) p ≡ [] = cond-false _ _ _ (ne_eqb r.from p (λ e. ne (sym e))) in
    ap (map row_move) (filter-append (λ r. eqb r.from p) rows (r ∷ []) ∙ ap (λ rs. rows_from rows p ++ rs) one ∙ append-nil (rows_from rows p))

pub lanes_more : (n : ℕ) (rows : List LaneRow) (r : LaneRow) → r.from < n → lane_moves n (rows ++ r ∷ []) ≡ extended (lane_moves n rows) r.from (row_move r ∷ [])
lanes_more n rows r h =
    let len : length (lane_moves n rows) ≡ n = length-map-range_with_len (moves_from rows) 0 n in
    let len' : length (lane_moves n (rows ++ r ∷ [])) ≡ n = length-map-range_with_len (moves_from (rows ++ r ∷ [])) 0 n in
    let was : (p : ℕ) → p < n → get_or (lane_moves n rows) p [] ≡ moves_from rows p =
    λ p lt. get_or-map-range_with_len (moves_from rows) 0 n p p [] lt (omega arith) in
    ext_get_or [] (lane_moves n (rows ++ r ∷ [])) (extended (lane_moves n rows) r.from (row_move r ∷ []))
    (simp length-set (len' ∙ sym len))
    (λ p lt.
    let lt' : p < n = omega arith in
    get_or-map-range_with_len (moves_from (rows ++ r ∷ [])) 0 n p p [] lt' (omega arith)
    ∙ elim (cases_eq p r.from) [
      | inl e ↦
          let lt'' : r.from < length (lane_moves n rows) = omega arith in
          from_here rows r p e
          ∙ ap (λ ms. ms ++ row_move r ∷ []) (ap (moves_from rows) e ∙ sym (was r.from h))
          ∙ sym (ap (λ q. get_or (extended (lane_moves n rows) r.from (row_move r ∷ [])) q []) e ∙ get_or-set_same (lane_moves n rows) r.from _ [] lt'')
      | inr ne ↦ from_elsewhere rows r p ne ∙ sym (get_or-set_other (lane_moves n rows) r.from p _ [] ne ∙ was p lt')
    ])

-- what a row that fits names

pub fits_from : (moves : List (List Move)) (r : LaneRow) → lane_fits moves r ≡ true → r.from < length moves
fits_from moves r h = ltb-true _ _ (and_parts _ _ h).0

pub fits_to : (moves : List (List Move)) (r : LaneRow) → lane_fits moves r ≡ true → r.to < length moves
fits_to moves r h = ltb-true _ _ (and_parts _ _ (and_parts _ _ h).1).0

pub fits_room : (moves : List (List Move)) (r : LaneRow) → lane_fits moves r ≡ true → length (get_or moves r.from []) < 8
fits_room moves r h = ltb-true _ _ (and_parts _ _ (and_parts _ _ h).1).1

-- what a refusal that is there or not tells of its test

pub passed : {X : Type 0} (b : Bool) (x : X) → none ≡ cond b none (some x) → b ≡ true
passed true x e = refl
passed false x e = let z : ◌≡◌ {A = ℕ} 0 1 = cc in absurd (omega arith)

pub failed : {X : Type 0} (b : Bool) (x y : X) → some y ≡ cond b none (some x) → (b ≡ false) × (y ≡ x)
failed true x y e = let z : ◌≡◌ {A = ℕ} 0 1 = cc in absurd (omega arith)
failed false x y e = (refl, cc)

-- a table is read up to row i, and these are the moves so far
abbrev pub Read : ℕ → List LaneRow → List (List Move) → ℕ → Type 0
Read places rows moves i =
    (moves ≡ lane_moves places (take i rows))
    × (lane_count moves ≡ i)
    × (rows_refusal places (take i rows) (drop i rows) ≡ lane_refusal places rows)

pub read_none : (places : ℕ) (rows : List LaneRow) (moves : List (List Move)) → none ≡ size_refusal places → moves ≡ replicate places [] → Read places rows moves 0
read_none places rows moves fits e =
    (e ∙ sym (none_from 0 places), ap lane_count e ∙ count_none places, sym (cond-true _ _ _ (passed _ _ fits)))

pub read_all : (places : ℕ) (rows : List LaneRow) (moves : List (List Move)) (i : ℕ) → length rows ≤ i → Read places rows moves i
    → (none ≡ lane_refusal places rows) × (moves ≡ lane_moves places rows)
read_all places rows moves i le h =
    (sym (at_drop_all (rows_refusal places (take i rows)) rows i le) ∙ h.2, h.0 ∙ ap (lane_moves places) (take_all i rows le))

module _ (places : ℕ) (rows : List LaneRow) (moves : List (List Move)) (i : ℕ) (d : LaneRow) (lt : i < length rows) (so_far : Read places rows moves i) where
  abbrev row : LaneRow
  row = get_or rows i d

  next : cond (lane_fits moves row) (rows_refusal places (take (i + 1) rows) (drop (i + 1) rows)) (some (7, i ∷ [])) ≡ lane_refusal places rows
  next =
      let le : i ≤ length rows = omega arith in
      let here : rows_refusal places (take i rows) (drop i rows)
      ≡ cond (lane_fits moves row) (rows_refusal places (take (i + 1) rows) (drop (i + 1) rows)) (some (7, i ∷ [])) =
      ap (rows_refusal places (take i rows)) (drop_more rows i d lt)
      ∙ simp (sym so_far.0, take_more rows i d lt, length-take-le i rows le) in
      sym here ∙ so_far.2

  -- the row was taken
  pub read_more : (moves' : List (List Move)) → none ≡ row_refusal moves row → moves' ≡ extended moves row.from (row_move row ∷ []) → Read places rows moves' (i + 1)
  read_more moves' taken e =
      let fits = passed _ _ taken in
      let here = fits_from moves row fits in
      let len : length moves ≡ places = ap length so_far.0 ∙ length-map-range_with_len (moves_from (take i rows)) 0 places in
      let from : row.from < places = omega arith in (
        e ∙ ap (λ ms. extended ms row.from (row_move row ∷ [])) so_far.0
            ∙ sym (ap (lane_moves places) (take_more rows i d lt) ∙ lanes_more places (take i rows) row from),
        ap lane_count e ∙ count_extended moves row.from (row_move row) here ∙ ap (λ n. n + 1) so_far.1,
        sym (cond-true _ _ _ fits) ∙ next,
      )

  -- the row was refused
  pub read_refused : (n : ℕ × List ℕ) → some n ≡ row_refusal moves row → some n ≡ lane_refusal places rows
  read_refused n refused =
      let told = failed _ _ _ refused in
      ap some (told.1 ∙ ap (λ k. (7, k ∷ [])) so_far.1) ∙ sym (cond-false _ _ _ told.0) ∙ next
