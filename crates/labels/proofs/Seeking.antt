-- A look among constraints; and what is not there at all.
-- Assumes nothing.
use Rattle.std.proofs.Common.{◌≡◌, ℕ, ◌+◌, ◌<◌, ◌≤◌, Bool, true, false, ◌&&◌, ◌||◌, eqb, List, [], ◌∷◌, map, length, get_or, drop, refl, inl, inr}
use Rattle.std.proofs.lemmas.List.{at_drop_more, at_drop_all}
use Rattle.std.proofs.lemmas.Bool.{cases_Bool, both_ways, and_parts, and_from, or_parts, or_from}
use Rattle.rules.specs.Walks.{Constraint, vertex, edge, any_of, forbids_place, forbids_move}
use Rattle.labels.specs.Seeking.{names, leads_to}

-- a look among constraints, one step on
module _ {B : Type 0} (f : Constraint → Bool) (rule : B → Constraint) (bs : List B) (i : ℕ) where
  pub looked : (b : B) → i < length bs → any_of f (map rule (drop i bs)) ≡ (f (rule (get_or bs i b)) || any_of f (map rule (drop (i + 1) bs)))
  looked b lt = at_drop_more (λ l. any_of f (map rule l)) bs i b lt

  pub looked_all : length bs ≤ i → any_of f (map rule (drop i bs)) ≡ false
  looked_all le = at_drop_all (λ l. any_of f (map rule l)) bs i le

-- where one test passes nothing, a narrower one does not either
pub none_of : (f h : Constraint → Bool) → ((b : Constraint) → f b ≡ true → h b ≡ true) → (bs : List Constraint) → any_of h bs ≡ false → any_of f bs ≡ false
none_of f h narrower [] e = refl
none_of f h narrower (b ∷ bs) e =
    let parts = or_parts (h b) (any_of h bs) e in
    or_from (f b) (any_of f bs) (elim (cases_Bool (f b)) [ inl yes' ↦ absurd (both_ways (h b) parts.0 (narrower b yes')) | inr no' ↦ no' ]) (none_of f h narrower bs parts.1)

module _ (c t : ℕ) where
  place-names : (p : ℕ) (b : Constraint) → forbids_place c p t b ≡ true → names c t b ≡ true
  place-names p (vertex c' p' t') e =
      let first = and_parts (eqb c c' && eqb p p') (eqb t t') e in
      and_from (eqb c c') (eqb t t') (and_parts (eqb c c') (eqb p p') first.0).0 first.1
  place-names p (edge c' u' v' t') e = absurd (both_ways false refl e)

  to_names : (v : ℕ) (b : Constraint) → leads_to c v t b ≡ true → names c t b ≡ true
  to_names v (vertex c' p' t') e = absurd (both_ways false refl e)
  to_names v (edge c' u' v' t') e =
      let first = and_parts (eqb c c' && eqb v v') (eqb t t') e in
      and_from (eqb c c') (eqb t t') (and_parts (eqb c c') (eqb v v') first.0).0 first.1

  move-leads : (u v : ℕ) (b : Constraint) → forbids_move c u v t b ≡ true → leads_to c v t b ≡ true
  move-leads u v (vertex c' p' t') e = absurd (both_ways false refl e)
  move-leads u v (edge c' u' v' t') e =
      let first = and_parts (eqb c c' && eqb u u' && eqb v v') (eqb t t') e in
      let second = and_parts (eqb c c' && eqb u u') (eqb v v') first.0 in
      and_from (eqb c c' && eqb v v') (eqb t t') (and_from (eqb c c') (eqb v v') (and_parts (eqb c c') (eqb u u') second.0).0 second.1) first.1

  -- a tick without constraints on the cart; a place without constraints on its moves there
  pub quiet_place : (p : ℕ) (bs : List Constraint) → any_of (names c t) bs ≡ false → any_of (forbids_place c p t) bs ≡ false
  quiet_place p = none_of (forbids_place c p t) (names c t) (place-names p)

  pub quiet_to : (v : ℕ) (bs : List Constraint) → any_of (names c t) bs ≡ false → any_of (leads_to c v t) bs ≡ false
  quiet_to v = none_of (leads_to c v t) (names c t) (to_names v)

  pub quiet_move : (u v : ℕ) (bs : List Constraint) → any_of (leads_to c v t) bs ≡ false → any_of (forbids_move c u v t) bs ≡ false
  quiet_move u v = none_of (forbids_move c u v t) (leads_to c v t) (move-leads u v)
