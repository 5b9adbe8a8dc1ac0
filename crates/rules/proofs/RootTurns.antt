-- What a turn that seeks a root comes to: the first root not taken, and whether the label rows suffice for every cart.
-- Assumes nothing.
use Rattle.std.proofs.Common.{◌≡◌, ℕ, zero, suc, ◌+◌, ◌<◌, ◌≤◌, Bool, true, false, cond, leb, ◌↔◌, List, [], ◌∷◌, replicate, sym, refl, ap, subst, inl, inr, arith}
use mathlib.Core.Option.{Option, none, some}
use Rattle.std.specs.List.{range_with_len}
use Rattle.std.proofs.lemmas.Bool.{cond_both, cases_eq, and_parts, and_cases, leb-true, leb-false, both_ways}
use Rattle.rules.specs.Instances.{Instance, cart_count}
use Rattle.rules.specs.Offers.{Label, label_count}
use Rattle.rules.specs.Search.{Search, Limits, Stop, stopped, went, free_offers, all_fit, none_empty, after, ended, at_root, root_or_end, next_root}
use Rattle.rules.specs.Guarantee.{RootBefore, root_numbers, NotTaken}
use Rattle.rules.specs.Turns.{NextRoot, taken, none_left}
use Rattle.rules.proofs.Roots.{Next, free_within, free_root, first_root, empty_rootless, after_next}

pub stopped_not_went : {C : Type 0} {s : Stop} {x : ℕ} {q : Search C} → stopped s ≡ went x q → ⊥
stopped_not_went e = let z : ◌≡◌ {A = ℕ} 0 1 = cc in omega arith

module _ {C : Type 0} (i : Instance C) where
  abbrev free : List (List (Label C))
  free = free_offers i

  module _ (q : Search C) (bare : q.trail ≡ []) where
    -- with no trail, the roots not taken come after the carts' numbers, once one was taken
    not_taken : (b : Bool) → q.begun ≡ b → (ns : List ℕ) → NotTaken q ns ↔ cond b (RootBefore q.numbers ns) (Unit {0})
    not_taken b e ns =
        let same : ◌≡◌ {A = Type 0} (NotTaken q ns) (cond b (RootBefore q.numbers ns) (Unit {0})) = λ j. cond (e j) (RootBefore (root_numbers (bare j) q.numbers) ns) (Unit {0}) in
        (λ h. subst (λ X. X) same h, λ h. subst (λ X. X) (sym same) h)

    after-root : q.begun ≡ true → (o : Option (List ℕ)) → Next i q.numbers free o → NextRoot i q (root_or_end i q o)
    after-root on none next = none_left (λ ns r n. next ns (free_within i ns r) ((not_taken true on ns).0 n))
    after-root on (some ns) next =
        taken ns (free_root i ns next.0) ((not_taken true on ns).1 next.1) (λ ms r n. next.2 ms (free_within i ms r) ((not_taken true on ms).0 n))

    pub next_root_is : NextRoot i q (cond (none_empty free) (next_root i q) (ended q))
    next_root_is =
        cond_both (none_empty free) _ _ (NextRoot i q)
        (λ offered. cond_both q.begun _ _ (NextRoot i q)
        (λ on. after-root on (after q.numbers free) (after_next i q.numbers free offered))
        (λ off.
        let zeros = first_root i offered in
        taken (replicate (cart_count i) 0) (free_root i (replicate (cart_count i) 0) zeros.0) ((not_taken false off (replicate (cart_count i) 0)).1 tt)
        (λ ms r _. zeros.1 ms (free_within i ms r))))
        (λ empty. none_left (λ ns r _. empty_rootless i free empty ns (free_within i ns r)))

module _ {C : Type 0} (i : Instance C) (room : Limits) where
  -- some cart has more labels than there are rows
  abbrev pub Exceeded : ℕ → ℕ → Type 0
  Exceeded k n = (c : ℕ) × (k ≤ c) × (c < k + n) × (room.labels < label_count i c [])

  pub not_all_fit : (k n : ℕ) → all_fit i room (range_with_len k n) ≡ false → Exceeded k n
  not_all_fit k zero h = absurd (both_ways true h refl)
  not_all_fit k (suc n) h =
      elim (and_cases (leb (label_count i k []) room.labels) (all_fit i room (range_with_len (k + 1) n)) h) [
        | inl e ↦ (k, omega arith, omega arith, leb-false _ _ e)
        | inr rest ↦ let (c, from, to, more) = not_all_fit (k + 1) n rest in (c, omega arith, omega arith, more)
      ]

  pub all_fit-few : (k n : ℕ) → all_fit i room (range_with_len k n) ≡ true → Exceeded k n → ⊥
  all_fit-few k zero h x = omega (arith, x.1, x.2)
  all_fit-few k (suc n) h (c, from, to, more) =
      let parts = and_parts (leb (label_count i k []) room.labels) (all_fit i room (range_with_len (k + 1) n)) h in
      elim (cases_eq c k) [
        | inl e ↦ omega (arith, leb-true _ _ parts.0, ap (λ a. label_count i a []) e)
        | inr apart ↦ all_fit-few (k + 1) n parts.1 (c, omega arith, omega arith, more)
      ]

before_once : (ns ms : List ℕ) → RootBefore ns ms → RootBefore ms ns → ⊥
before_once [] ms b c = b
before_once (n ∷ ns) [] b c = b
before_once (n ∷ ns) (m ∷ ms) (inl b) (inl c) = omega arith
before_once (n ∷ ns) (m ∷ ms) (inl b) (inr c) = omega (arith, c.0)
before_once (n ∷ ns) (m ∷ ms) (inr b) (inl c) = omega (arith, b.0)
before_once (n ∷ ns) (m ∷ ms) (inr b) (inr c) = before_once ns ms b.1 c.1

pub one_next_root : {C : Type 0} (i : Instance C) {q r s : Search C} → NextRoot i q r → NextRoot i q s → r ≡ s
one_next_root i {q} (taken ns root left first) (taken ms root' left' first') =
    elim (first ms root' left') [
      | inl same ↦ ap (at_root i q) same
      | inr before ↦ elim (first' ns root left) [ inl same ↦ ap (at_root i q) (sym same) | inr after ↦ absurd (before_once ns ms before after) ]
    ]
one_next_root i (taken ns root left first) (none_left no_root) = absurd (no_root ns root left)
one_next_root i (none_left no_root) (taken ms root' left' first') = absurd (no_root ms root' left')
one_next_root i (none_left no_root) (none_left no_root') = refl
