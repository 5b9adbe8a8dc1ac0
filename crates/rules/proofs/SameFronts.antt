-- Fronts of one set are the same, and so are entries with the same costs where a cost leaves no choice.
-- Assumes nothing.
use Rattle.std.proofs.Common.{◌≡◌, ℕ, zero, suc, List, [], ◌∷◌, sym, refl, ap, ◌∙◌, subst, inl, inr, arith}
use mathlib.Core.Option.{some}
use lib.ListN.{get_elem?}
use Rattle.std.specs.List.{AllByRecursion}
use Rattle.std.proofs.ByRecursion.{all-has}
use Rattle.rules.specs.Kinds.{Kind, Laws, Before}
use Rattle.rules.specs.Fronts.{Ascends, Front, Entry}
use Rattle.rules.proofs.Members.{Among, any_map, any_has, at_getD, none_is_not}
use Rattle.rules.proofs.Firsts.{any_at}
use Rattle.rules.proofs.Fronts.{costs, before_differs}

module _ {C : Type 0} (k : Kind C) (laws : Laws k) where
  after : (a c : C) (cs : List C) → Ascends k (a ∷ cs) → Among cs c → Before k a c
  after a c cs h later = let (d, at, e) = any_has (λ x. x ≡ c) cs later in subst (Before k a) e (all-has (Before k a) cs d h.0 at)

  -- each begins with a member of the other
  same_first : (a b : C) (cs ds : List C) → Ascends k (a ∷ cs) → Ascends k (b ∷ ds) → Among (b ∷ ds) a → Among (a ∷ cs) b → a ≡ b
  same_first a b cs ds ha hb (inl e) back = sym e
  same_first a b cs ds ha hb (inr later) (inl e) = e
  same_first a b cs ds ha hb (inr later) (inr back) = absurd (laws.before_irrefl a (laws.before_trans a b a (after a b cs ha back) (after b a ds hb later)))

  -- what another list has behind its first, this one has
  same_rest : (a b c : C) (cs ds : List C) → Ascends k (a ∷ cs) → a ≡ b → Among cs c → Among (b ∷ ds) c → Among ds c
  same_rest a b c cs ds ha e here (inl f) = absurd (before_differs k laws a c (after a c cs ha here) (e ∙ f))
  same_rest a b c cs ds ha e here (inr there) = there

  ascends_same : (cs ds : List C) → Ascends k cs → Ascends k ds → ((c : C) → Among cs c → Among ds c) → ((c : C) → Among ds c → Among cs c) → cs ≡ ds
  ascends_same [] [] hc hd to from = refl
  ascends_same [] (d ∷ ds) hc hd to from = elim (from d (inl refl)) [ ]
  ascends_same (c ∷ cs) [] hc hd to from = elim (to c (inl refl)) [ ]
  ascends_same (c ∷ cs) (d ∷ ds) hc hd to from =
      let e = same_first c d cs ds hc hd (to c (inl refl)) (from d (inl refl)) in
      let rest = ascends_same cs ds hc.1 hd.1 (λ x h. same_rest c d x cs ds hc e h (to x (inr h))) (λ x h. same_rest d c x ds cs hd (sym e) h (from x (inr h))) in
      cc

  pub front_same : (P : C → Type 0) (cs ds : List C) → Front k P cs → Front k P ds → cs ≡ ds
  front_same P cs ds f g = ascends_same cs ds f.ordered g.ordered (carried f g) (carried g f)
    where
      carried : {xs ys : List C} → Front k P xs → Front k P ys → (c : C) → Among xs c → Among ys c
      carried {xs} {ys} f g c h =
          let (d, at, e) = any_has (λ x. x ≡ c) xs h in
          let there = g.whole d (f.sound d at) in
          any_at (λ x. x ≡ c) ys there.0 d (at_getD ys there.0 d there.1 ∙ ap some (there.2 d)) e

  module _ {B : Type 0} where
    differs_behind : (x : Entry C B) (es : List (Entry C B)) → Ascends k (costs (x ∷ es)) → (n : ℕ) (f : Entry C B) → get_elem? es n ≡ some f → x.cost ≡ f.cost → ⊥
    differs_behind x es h n f at =
        let among = any_map (λ c. c ≡ f.cost) (λ g. g.cost) es (any_at (λ g. g.cost ≡ f.cost) es n f at refl) in
        before_differs k laws x.cost f.cost (after x.cost f.cost (costs es) h among)

    -- of an ascending list's entries one at most has a cost
    pub one_of_a_cost : (es : List (Entry C B)) → Ascends k (costs es) → (m n : ℕ) (e f : Entry C B) → get_elem? es m ≡ some e → get_elem? es n ≡ some f → e.cost ≡ f.cost → e ≡ f
    one_of_a_cost [] h m n e f at_m at_n same = absurd (none_is_not e at_m)
    one_of_a_cost (x ∷ es) h zero zero e f at_m at_n same = cc
    one_of_a_cost (x ∷ es) h zero (suc n) e f at_m at_n same = let first : x ≡ e = cc in absurd (differs_behind x es h n f at_n (ap (λ g. g.cost) first ∙ same))
    one_of_a_cost (x ∷ es) h (suc m) zero e f at_m at_n same = let first : x ≡ f = cc in absurd (differs_behind x es h m e at_m (ap (λ g. g.cost) first ∙ sym same))
    one_of_a_cost (x ∷ es) h (suc m) (suc n) e f at_m at_n same = one_of_a_cost es h.1 m n e f at_m at_n same

-- entries with the same costs are the same, where those of one cost are
pub entries_same : {C B : Type 0} (P Q : Entry C B → Type 0) → ((e f : Entry C B) → P e → Q f → e.cost ≡ f.cost → e ≡ f) → (es fs : List (Entry C B)) →
    AllByRecursion P es → AllByRecursion Q fs → costs es ≡ costs fs → es ≡ fs
entries_same P Q one [] [] p q same = refl
entries_same P Q one [] (f ∷ fs) p q same = let z : ◌≡◌ {A = ℕ} 0 1 = cc in absurd (omega arith)
entries_same P Q one (e ∷ es) [] p q same = let z : ◌≡◌ {A = ℕ} 0 1 = cc in absurd (omega arith)
entries_same P Q one (e ∷ es) (f ∷ fs) p q same =
    let first = one e f p.0 q.0 cc in
    let rest = entries_same P Q one es fs p.1 q.1 cc in
    cc
