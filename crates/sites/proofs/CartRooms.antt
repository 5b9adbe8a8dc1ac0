-- A cart entered in the reader's own rows, as many of them as the lent table has. Assumes nothing.
use Rattle.std.proofs.Common.{◌≡◌, ℕ, ◌+◌, ◌<◌, ◌≤◌, min, Bool, true, false, cond, ◌||◌, leb, List, [], ◌∷◌, ◌++◌, length, take, set, Some, None, Option, sym, refl, ap, ◌∙◌, inl, inr, arith}
use native.Mathlib.Nat.{min-eq_left, min-eq_right}
use borrow.Rule.Slice.PartMut.{post_of}
use Rattle.std.proofs.lemmas.List.{length-append, length-drop, length-set, length-take-le, take_all, take-append-le, take_more_set, take-take, length_push}
use Rattle.std.proofs.lemmas.Bool.{cases_lt, cond-true, le-leb, leb-false, or_parts, or_right}
use Rattle.std.proofs.lemmas.Bool.Decides.{nat_tests}
use Rattle.carts.specs.declared.cart.Cart.{Cart as CartRow}
use Rattle.carts.specs.Drafts.{cart_refusal}

pub not_refused : {X : Type 0} (b : Bool) (x : X) (o : Option X) → cond b (Some x) o ≡ None → b ≡ false
not_refused true x o e = cc
not_refused false x o e = refl

cond_same : {X : Type 0} (a b : Bool) (x y : X) → a ≡ b → cond a x y ≡ cond b x y
cond_same a b x y e = ap (λ t. cond t x y) e

module _ (es cs : List CartRow) (k rows start goal : ℕ) (held : take (length es) cs ≡ es) (six : length cs ≡ 6) (room : k ≡ min rows 6) where
  few : length es ≤ 6
  few = elim (cases_lt (length cs) (length es)) [
    | inl l ↦ let a = ap length (take_all (length es) cs (omega arith)) in let b = ap length held in absurd (omega arith)
    | inr l ↦ omega arith
  ]

  short : (k ≤ 6) × ((6 ≤ rows → k ≡ 6) × (rows ≤ 6 → k ≡ rows))
  short = elim (cases_lt rows 6) [
    | inl l ↦ let e = min-eq_left {n = rows} {m = 6} (omega arith) in (omega arith, ((λ h. omega arith), (λ h. omega arith)))
    | inr l ↦ let e = min-eq_right {n = 6} {m = rows} l in (omega arith, ((λ h. omega arith), (λ h. omega arith)))
  ]

  full_same : (leb 6 (length es) || leb k (length es)) ≡ (leb 6 (length es) || leb rows (length es))
  full_same = let f = few in elim (cases_lt rows 6) [
    | inl l ↦ let e : k ≡ rows = short.1.1 (omega arith) in ap (λ n. leb 6 (length es) || leb n (length es)) e
    | inr l ↦ let e : k ≡ 6 = short.1.0 l in grind (arith, nat_tests)
  ]

  whole : length (take k cs) ≡ k
  whole = let s = short.0 in length-take-le k cs (omega arith)

  pub cart-room : cart_refusal (take (length es) (take k cs)) (length (take k cs)) start goal ≡ cart_refusal es rows start goal
  cart-room = elim (cases_lt k (length es)) [
    | inl l ↦
        let w = whole in
        let f = few in
        let L : ℕ = length (take (length es) (take k cs)) in
        let same : L ≡ length (take k cs) = ap length (take_all (length es) (take k cs) (omega arith)) in
        let small : rows ≤ length es = elim (cases_lt rows 6) [ inl a ↦ let e = short.1.1 (omega arith) in omega arith | inr b ↦ let e = short.1.0 b in absurd (omega arith) ] in
        cond-true (leb 6 L || leb (length (take k cs)) L) _ _ (or_right (leb 6 L) _ (le-leb (length (take k cs)) L (omega arith)))
        ∙ sym (cond-true (leb 6 (length es) || leb rows (length es)) _ _ (or_right (leb 6 (length es)) _ (le-leb rows (length es) small)))
    | inr l ↦
        (λ i. cart_refusal (take-take (length es) k cs l i) (whole i) start goal)
        ∙ ap (λ (ds : List CartRow). cart_refusal ds k start goal) held
        ∙ cond_same _ _ _ _ full_same
  ]

  -- a cart that is not refused has a row
  row_left : cart_refusal es rows start goal ≡ None → length es < k
  row_left e =
      let unfull = or_parts (leb 6 (length es)) (leb rows (length es)) (not_refused _ _ _ e) in
      let a = leb-false 6 (length es) unfull.0 in
      let b = leb-false rows (length es) unfull.1 in
      elim (cases_lt rows 6) [ inl l ↦ let e = short.1.1 (omega arith) in omega arith | inr l ↦ let e = short.1.0 l in omega arith ]

  module _ (cart : CartRow) (free : cart_refusal es rows start goal ≡ None) where
    pub cart-held : take (length (es ++ cart ∷ [])) (set (take k cs) (length es) cart ++ post_of 0 k cs) ≡ es ++ cart ∷ []
    cart-held =
        let w = whole in
        let r = row_left free in
        let n = length_push es cart in
        let s = length-set (take k cs) (length es) cart in
        ap (λ m. take m (set (take k cs) (length es) cart ++ post_of 0 k cs)) n
        ∙ take-append-le (length es + 1) (set (take k cs) (length es) cart) (post_of 0 k cs) (omega arith)
        ∙ take_more_set (take k cs) (length es) cart (omega arith)
        ∙ ap (λ t. t ++ cart ∷ []) (take-take (length es) k cs (omega arith) ∙ held)

    pub cart_rows : length (set (take k cs) (length es) cart ++ post_of 0 k cs) ≡ 6
    cart_rows =
        let w = whole in
        let s = short.0 in
        omega (arith, length-append (set (take k cs) (length es) cart) (post_of 0 k cs), length-set (take k cs) (length es) cart, length-drop k cs)
