-- Selecting among the candidates of a cell, move by move.
-- Assumes nothing.
use Rattle.std.proofs.Common.{◌≡◌, ℕ, ◌+◌, ◌<◌, Bool, eqb, List, [], ◌∷◌, ◌++◌, map, length, get_or, drop, Option, sym, refl, ap, ◌∙◌, inl, inr}
use Rattle.std.specs.List.{range_with_len}
use Rattle.std.proofs.lemmas.List.{append_assoc, at_drop_more}
use Rattle.std.proofs.lemmas.Bool.{cases_Bool, eqb-true}
use Rattle.rules.specs.Kinds.{Kind}
use Rattle.rules.specs.Fronts.{Entry}
use Rattle.rules.specs.Instances.{Move, moves_of}
use Rattle.rules.specs.Offers.{Label, by_moves, joined_lists}
use Rattle.labels.specs.declared.cell.Cell.{Cell}
use Rattle.charts.specs.declared.inbound.Inbound.{Inbound}
use Rattle.labels.specs.Cells.{by_one}
use Rattle.charts.specs.Indexes.{into, inbound_of}
use Rattle.labels.specs.Picks.{picked, better}
use Rattle.labels.specs.Queries.{Asked, row_of, place_count, reaching}

pub picked-append : {C X : Type 0} (k : Kind C) (skip : C → Bool) (o : Option (Entry C X)) (xs ys : List (Entry C X)) → picked k skip o (xs ++ ys) ≡ picked k skip (picked k skip o xs) ys
picked-append k skip o [] ys = refl
picked-append k skip o (x ∷ xs) ys = picked-append k skip (better k skip o x) xs ys

module _ {C : Type 0} (a : Asked C) (cell : Cell) where
  -- what moves bring to the cell, one after another
  abbrev pub by_all : List Inbound → List (Label C)
  by_all [] = []
  by_all (m ∷ ms) = by_one a cell m ++ by_all ms

  by_all_append : (ms ns : List Inbound) → by_all (ms ++ ns) ≡ by_all ms ++ by_all ns
  by_all_append [] ns = refl
  by_all_append (m ∷ ms) ns = ap (λ l. by_one a cell m ++ l) (by_all_append ms ns) ∙ sym (append_assoc (by_one a cell m) (by_all ms) (by_all ns))

  abbrev brought : ℕ → List Move → List (Label C)
  brought u ms = by_moves a.inst a.cart a.constraints cell.tick cell.place u ms (get_or (row_of a cell.tick) u [])

  one_place : (u : ℕ) (ms : List Move) → brought u ms ≡ by_all (into cell.place u ms)
  one_place u [] = refl
  one_place u (m ∷ ms) = elim (cases_Bool (eqb m.to cell.place)) [
    | inl e ↦ rw (e, eqb-true m.to cell.place e) (ap (λ l. by_one a cell (record { from = u; line = m.line }) ++ l) (one_place u ms))
    | inr e ↦ rw e (one_place u ms)
  ]

  all_places : (us : List ℕ) → joined_lists (map (λ u. brought u (moves_of a.inst u)) us) ≡ by_all (joined_lists (map (λ u. into cell.place u (moves_of a.inst u)) us))
  all_places [] = refl
  all_places (u ∷ us) =
      let front = into cell.place u (moves_of a.inst u) in
      let rest = joined_lists (map (λ v. into cell.place v (moves_of a.inst v)) us) in
      ap (λ l. l ++ joined_lists (map (λ v. brought v (moves_of a.inst v)) us)) (one_place u (moves_of a.inst u)) ∙ ap (λ l. by_all front ++ l) (all_places us) ∙ sym (by_all_append front rest)

  -- the candidates, by the index
  pub reaching_is : reaching a cell.tick cell.place ≡ by_all (inbound_of a.inst.moves cell.place)
  reaching_is = all_places (range_with_len 0 (place_count a))

  module _ (skip : C → Bool) (o : Option (Label C)) (ms : List Inbound) (n : ℕ) where
    pub moves_at : (m : Inbound) → n < length ms → picked a.inst.kind skip o (by_all (drop n ms)) ≡ picked a.inst.kind skip (picked a.inst.kind skip o (by_one a cell (get_or ms n m))) (by_all (drop (n + 1) ms))
    moves_at m lt =
        at_drop_more (λ l. picked a.inst.kind skip o (by_all l)) ms n m lt
        ∙ picked-append a.inst.kind skip o (by_one a cell (get_or ms n m)) (by_all (drop (n + 1) ms))
