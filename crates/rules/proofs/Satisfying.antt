-- Satisfying constraints: a cart does exactly when the tests allow each of its places and moves; and it stands where they allow the goal tick by tick.
-- Assumes nothing.
use Rattle.std.proofs.Common.{◌≡◌, ℕ, zero, suc, ◌+◌, ◌<◌, ◌≤◌, Bool, true, false, not, List, [], ◌∷◌, refl, inl, inr, arith}
use Rattle.std.specs.List.{AllByRecursion}
use Rattle.std.proofs.ByRecursion.{All-weaker}
use Rattle.std.proofs.lemmas.Bool.{or_from, or_parts, not-true, not_from_false, and_parts, and_from, cases_eq}
use Rattle.std.proofs.lemmas.Bool.Decides.{nat_tests}
use Rattle.rules.specs.Instances.{Instance, goal_of}
use Rattle.rules.specs.Walks.{Constraint, vertex, edge, Satisfies, forbids_place, forbids_move, any_of}
use Rattle.rules.specs.Offers.{may_be, may_go, may_stand}

any_of_false : (f : Constraint → Bool) (bans : List Constraint) → AllByRecursion (λ b. f b ≡ false) bans → any_of f bans ≡ false
any_of_false f [] h = refl
any_of_false f (b ∷ bs) h = or_from (f b) (any_of f bs) h.0 (any_of_false f bs h.1)

module _ (cart : ℕ) (at : ℕ → ℕ) (last moves : ℕ) where
  -- a constraint forbids where the cart is at tick t; the move that it makes then
  abbrev bars_place : ℕ → Constraint → Bool
  bars_place t = forbids_place cart (at t) t

  abbrev bars_move : ℕ → Constraint → Bool
  bars_move t = forbids_move cart (at t) (at (suc t)) t

  spared_place : (b : Constraint) → Satisfies cart at last moves b → (t : ℕ) → t ≤ last → bars_place t b ≡ false
  spared_place (vertex c p s) o t h = grind (arith, nat_tests)
  spared_place (edge c u v s) o t h = refl

  spared_move : (b : Constraint) → Satisfies cart at last moves b → (t : ℕ) → t < moves → bars_move t b ≡ false
  spared_move (vertex c p s) o t h = refl
  spared_move (edge c u v s) o t h = grind (arith, nat_tests)

  spared_satisfies : (b : Constraint) → ((t : ℕ) → t ≤ last → bars_place t b ≡ false) → ((t : ℕ) → t < moves → bars_move t b ≡ false) → Satisfies cart at last moves b
  spared_satisfies (vertex c p s) places goes = λ same h here. let spared = places s h in grind (arith, nat_tests)
  spared_satisfies (edge c u v s) places goes = λ same h from to. let spared = goes s h in grind (arith, nat_tests)

  spared_all : (bans : List Constraint) → ((t : ℕ) → t ≤ last → any_of (bars_place t) bans ≡ false) →
      ((t : ℕ) → t < moves → any_of (bars_move t) bans ≡ false) → AllByRecursion (Satisfies cart at last moves) bans
  spared_all [] places goes = tt
  spared_all (b ∷ bs) places goes =
      let at_place = λ (t : ℕ) (h : t ≤ last). or_parts (bars_place t b) (any_of (bars_place t) bs) (places t h) in
      let at_move = λ (t : ℕ) (h : t < moves). or_parts (bars_move t b) (any_of (bars_move t) bs) (goes t h) in
      (spared_satisfies b (λ t h. (at_place t h).0) (λ t h. (at_move t h).0), spared_all bs (λ t h. (at_place t h).1) (λ t h. (at_move t h).1))

module _ {C : Type 0} (i : Instance C) (cart : ℕ) (bans : List Constraint) where
  module _ (at : ℕ → ℕ) (last moves : ℕ) where
    abbrev AllSatisfied : Type 0
    AllSatisfied = AllByRecursion (Satisfies cart at last moves) bans

    none_bars : (f : Constraint → Bool) → ((b : Constraint) → Satisfies cart at last moves b → f b ≡ false) → AllSatisfied → not (any_of f bans) ≡ true
    none_bars f spared p = not_from_false (any_of f bans) (any_of_false f bans (All-weaker (Satisfies cart at last moves) (λ b. f b ≡ false) spared bans p))

    pub satisfied_places : AllSatisfied → (t : ℕ) → t ≤ last → may_be i cart bans (at t) t ≡ true
    satisfied_places p t h = none_bars (bars_place cart at last moves t) (λ b o. spared_place cart at last moves b o t h) p

    pub satisfied_moves : AllSatisfied → (t : ℕ) → t < moves → may_go i cart bans (at t) (at (suc t)) t ≡ true
    satisfied_moves p t h = none_bars (bars_move cart at last moves t) (λ b o. spared_move cart at last moves b o t h) p

    pub satisfied_from : ((t : ℕ) → t ≤ last → may_be i cart bans (at t) t ≡ true) →
        ((t : ℕ) → t < moves → may_go i cart bans (at t) (at (suc t)) t ≡ true) → AllSatisfied
    satisfied_from places goes =
        spared_all cart at last moves bans
        (λ t h. not-true (any_of (bars_place cart at last moves t) bans) (places t h))
        (λ t h. not-true (any_of (bars_move cart at last moves t) bans) (goes t h))

  -- to stand is to be at the goal at each of the ticks
  pub stands_at : (t n : ℕ) → may_stand i cart bans t n ≡ true → (s : ℕ) → t < s → s ≤ t + n → may_be i cart bans (goal_of i cart) s ≡ true
  stands_at t zero h s l u = absurd (omega arith)
  stands_at t (suc n) h s l u =
      let parts = and_parts (may_be i cart bans (goal_of i cart) (suc t)) (may_stand i cart bans (suc t) n) h in
      elim (cases_eq (suc t) s) [ inl e ↦ rw (← e) parts.0 | inr later ↦ stands_at (suc t) n parts.1 s (omega arith) (omega arith) ]

  pub stands_from : (t n : ℕ) → ((s : ℕ) → t < s → s ≤ t + n → may_be i cart bans (goal_of i cart) s ≡ true) → may_stand i cart bans t n ≡ true
  stands_from t zero h = refl
  stands_from t (suc n) h =
      and_from (may_be i cart bans (goal_of i cart) (suc t)) (may_stand i cart bans (suc t) n)
      (h (suc t) (omega arith) (omega arith))
      (stands_from (suc t) n (λ s l u. h s (omega arith) (omega arith)))
