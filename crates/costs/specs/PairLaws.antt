-- That pairs keep the laws which their parts keep.
-- Assumes nothing.
use Rattle.std.specs.Prelude.{◌≡◌, ℕ, false, ◌⊎◌, List, ◌∷◌, ◌++◌, ◌≢◌, refl}
use Rattle.std.proofs.Common.{sym, ap, ◌∙◌, inl, inr, ⊎_elim, arith, length-append}
use Rattle.std.proofs.lemmas.Bool.{and_parts, and_from, both_ways, cases_Bool, cond-true, cond-false}
use Rattle.std.proofs.ByRecursion.{All-append}
use Rattle.std.proofs.lemmas.List.{append_assoc, append_cancel_left}
use Rattle.rules.specs.Kinds.{Kind, Before, Dominates, Laws}
use Rattle.costs.specs.Texts.{Texts, spaced}
use Rattle.costs.specs.Pairs.{pair_kind}
use Rattle.costs.specs.declared.pair.Pair.{Pair}

pair_same : {A B : Type 0} (p q : Pair A B) → p.first ≡ q.first → p.second ≡ q.second → p ≡ q
pair_same p q d e = λ i. record { first = d i; second = e i }

module _ {A B : Type 0} {k : Kind A} {l : Kind B} (la : Laws k) (lb : Laws l) where
  -- where the first parts are the same, neither comes first
  not_first : (a b : A) → a ≡ b → k.before a b ≡ false
  not_first a b same = ⊎_elim (λ h. absurd (la.before_irrefl a (ap (k.before a) same ∙ h))) (λ not_before. not_before) (cases_Bool (k.before a b))

  to_second : (p q : Pair A B) → p.first ≡ q.first → (pair_kind k l).before p q ≡ l.before p.second q.second
  to_second p q same = cond-false _ _ _ (not_first _ _ same) ∙ cond-false _ _ _ (not_first _ _ (sym same))

  lex_first : (p q : Pair A B) → Before k p.first q.first → Before (pair_kind k l) p q
  lex_first p q h = cond-true _ _ _ h

  lex_second : (p q : Pair A B) → p.first ≡ q.first → Before l p.second q.second → Before (pair_kind k l) p q
  lex_second p q same h = to_second p q same ∙ h

  lex_cases : (p q : Pair A B) → Before (pair_kind k l) p q → Before k p.first q.first ⊎ ((p.first ≡ q.first) × Before l p.second q.second)
  lex_cases p q h =
      ⊎_elim (λ first. inl first)
      (λ not_before. ⊎_elim (λ same. inr (same, sym (to_second p q same) ∙ h))
      (⊎_elim (λ first. inl first) (λ after. absurd (both_ways _ (cond-false _ _ _ not_before ∙ cond-true _ _ _ after) h)))
      (la.before_total p.first q.first))
      (cases_Bool (k.before p.first q.first))

  lex_trans : (p q r : Pair A B) → Before (pair_kind k l) p q → Before (pair_kind k l) q r → Before (pair_kind k l) p r
  lex_trans p q r h g =
      ⊎_elim (λ x. ⊎_elim (λ y. lex_first p r (la.before_trans _ _ _ x y)) (λ y. lex_first p r (ap (k.before p.first) (sym y.0) ∙ x)) (lex_cases q r g))
      (λ x. ⊎_elim (λ y. lex_first p r (ap (λ a. k.before a r.first) x.0 ∙ y)) (λ y. lex_second p r (x.0 ∙ y.0) (lb.before_trans _ _ _ x.1 y.1)) (lex_cases q r g))
      (lex_cases p q h)

  lex_total : (p q : Pair A B) → (p ≡ q) ⊎ (Before (pair_kind k l) p q ⊎ Before (pair_kind k l) q p)
  lex_total p q =
      ⊎_elim
      (λ same. ⊎_elim (λ same'. inl (pair_same p q same same')) (⊎_elim (λ x. inr (inl (lex_second p q same x))) (λ y. inr (inr (lex_second q p (sym same) y)))) (lb.before_total p.second q.second))
      (⊎_elim (λ x. inr (inl (lex_first p q x))) (λ y. inr (inr (lex_first q p y))))
      (la.before_total p.first q.first)

  lex_smaller : (p q : Pair A B) → Dominates (pair_kind k l) p q → Before (pair_kind k l) p q
  lex_smaller p q h =
      let x = and_parts _ _ h.0 in
      ⊎_elim
      (λ same. lex_second p q same (lb.at_most_before _ _ (x.1, λ same'. h.1 (pair_same p q same same'))))
      (λ other. lex_first p q (la.at_most_before _ _ (x.0, ⊎_elim (λ b d. both_ways _ (not_first _ _ d) b) (λ b d. both_ways _ (not_first _ _ (sym d)) b) other)))
      (la.before_total p.first q.first)

  pub pair_laws : Laws (pair_kind k l)
  pair_laws =
      record {
        join_assoc = λ a b c. pair_same _ _ (la.join_assoc _ _ _) (lb.join_assoc _ _ _);
        join_comm = λ a b. pair_same _ _ (la.join_comm _ _) (lb.join_comm _ _);
        zero_join = λ a. pair_same _ _ (la.zero_join _) (lb.zero_join _);
        at_most_refl = λ a. and_from _ _ (la.at_most_refl _) (lb.at_most_refl _);
        at_most_trans = λ a b c p q. let x = and_parts _ _ p in let y = and_parts _ _ q in and_from _ _ (la.at_most_trans _ _ _ x.0 y.0) (lb.at_most_trans _ _ _ x.1 y.1);
        at_most_antisym = λ a b p q. let x = and_parts _ _ p in let y = and_parts _ _ q in pair_same _ _ (la.at_most_antisym _ _ x.0 y.0) (lb.at_most_antisym _ _ x.1 y.1);
        join_mono = λ a b c p. let x = and_parts _ _ p in and_from _ _ (la.join_mono _ _ _ x.0) (lb.join_mono _ _ _ x.1);
        before_trans = lex_trans;
        before_irrefl = λ a h. lb.before_irrefl a.second (sym (to_second a a refl) ∙ h);
        before_total = lex_total;
        at_most_before = lex_smaller;
      }

module _ {A B : Type 0} {f : A → List ℕ} {g : B → List ℕ} (ta : Texts f) (tb : Texts g) where
  pub pair_texts : Texts {C = Pair A B} (λ p. spaced (f p.first) (g p.second))
  pair_texts = record {
    reads = λ p q r s e.
        let h : f p.first ++ (32 ∷ (g p.second ++ (32 ∷ r))) ≡ f q.first ++ (32 ∷ (g q.second ++ (32 ∷ s))) = sym (append_assoc (f p.first) (32 ∷ g p.second) (32 ∷ r)) ∙ e ∙ append_assoc (f q.first) (32 ∷ g q.second) (32 ∷ s) in
        let first = ta.reads _ _ _ _ h in
        let k = append_cancel_left (f q.first) _ _ (ap (λ (x : A). f x ++ (32 ∷ (g p.second ++ (32 ∷ r)))) (sym first) ∙ h) in
        let l : g p.second ++ (32 ∷ r) ≡ g q.second ++ (32 ∷ s) = cc in
        pair_same p q first (tb.reads _ _ r s l);
    some = λ p. simp length-append (omega (arith, ta.some p.first));
    plain = λ p. All-append (λ x. x ≢ 10) (f p.first) (32 ∷ g p.second) (ta.plain p.first) ((λ e. omega arith), tb.plain p.second);
  }
