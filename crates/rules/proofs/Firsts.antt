-- The first element of a list that has a property: its number, and where it stands in lists that are joined.
-- Assumes nothing.
use Rattle.std.proofs.Common.{◌≡◌, ℕ, zero, suc, ◌+◌, ◌<◌, ◌≤◌, Bool, true, cond, ◌⊎◌, List, [], ◌∷◌, ◌++◌, map, refl, ap, subst, inl, inr, arith}
use mathlib.Core.Option.{some}
use lib.ListN.{get_elem?}
use Rattle.std.specs.List.{range_with_len}
use Rattle.std.proofs.lemmas.Bool.{cases_eq, cond_both}
use Rattle.rules.specs.Offers.{joined_lists}
use Rattle.rules.proofs.Members.{Any, none_is_not}

-- x is the first element of the list that has P
abbrev pub First : {X : Type 0} → (X → Type 0) → List X → X → Type 0
First P [] x = ⊥
First P (y ∷ ys) x = ((y ≡ x) × P y) ⊎ ((P y → ⊥) × First P ys x)

-- no number below n has P
abbrev NoLower : {X : Type 0} → (X → Type 0) → List X → ℕ → Type 0
NoLower {X} P xs n = (k : ℕ) (y : X) → get_elem? xs k ≡ some y → P y → n ≤ k

pub same_at : {X : Type 0} (xs : List X) (n : ℕ) (x y : X) → get_elem? xs n ≡ some x → get_elem? xs n ≡ some y → x ≡ y
same_at xs n x y at_x at_y = cc

module _ {X : Type 0} (P : X → Type 0) where
  pub any_at : (xs : List X) (n : ℕ) (x : X) → get_elem? xs n ≡ some x → P x → Any P xs
  any_at [] n x e p = absurd (none_is_not x e)
  any_at (y ∷ ys) zero x e p = let same : x ≡ y = cc in inl (rw same at p)
  any_at (y ∷ ys) (suc n) x e p = inr (any_at ys n x e p)

  pub any_number : (xs : List X) → Any P xs → (n : ℕ) × (x : X) × (get_elem? xs n ≡ some x) × P x
  any_number [] h = elim h [ ]
  any_number (y ∷ ys) (inl p) = (0, y, refl, p)
  any_number (y ∷ ys) (inr h) = let (n, x, at, p) = any_number ys h in (suc n, x, at, p)

  first_any : (xs : List X) (x : X) → First P xs x → Any P xs
  first_any [] x h = elim h [ ]
  first_any (y ∷ ys) x (inl h) = inl h.1
  first_any (y ∷ ys) x (inr h) = inr (first_any ys x h.1)

  no_lower_more : (y : X) (ys : List X) (n : ℕ) → (P y → ⊥) → NoLower P ys n → NoLower P (y ∷ ys) (suc n)
  no_lower_more y ys n not_y low zero z e p = let same : z ≡ y = cc in absurd (not_y (rw same at p))
  no_lower_more y ys n not_y low (suc k) z e p = omega (arith, low k z e p)

  pub first_at : (xs : List X) (x : X) → First P xs x → (n : ℕ) × (get_elem? xs n ≡ some x) × P x × NoLower P xs n
  first_at [] x h = elim h [ ]
  first_at (y ∷ ys) x (inl h) = (0, ap some h.0, subst P h.0 h.1, λ k z e p. omega arith)
  first_at (y ∷ ys) x (inr h) = let (n, at, p, low) = first_at ys x h.1 in (suc n, at, p, no_lower_more y ys n h.0 low)

  first_append : (xs ys : List X) (x : X) → First P (xs ++ ys) x → First P xs x ⊎ ((Any P xs → ⊥) × First P ys x)
  first_append [] ys x h = inr (λ none. elim none [ ], h)
  first_append (z ∷ xs) ys x (inl h) = inl (inl h)
  first_append (z ∷ xs) ys x (inr h) =
      elim (first_append xs ys x h.1) [
        | inl here ↦ inl (inr (h.0, here))
        | inr later ↦ inr (λ any. elim any [ inl p ↦ h.0 p | inr q ↦ later.0 q ], later.1)
      ]

  -- the first in joined lists is the first of the first list that has one
  pub first_joined : {Y : Type 0} (g : Y → List X) (ys : List Y) (x : X) → First P (joined_lists (map g ys)) x →
      (y : Y) × First (λ z. Any P (g z)) ys y × First P (g y) x
  first_joined g [] x h = elim h [ ]
  first_joined g (y ∷ ys) x h =
      elim (first_append (g y) (joined_lists (map g ys)) x h) [
        | inl here ↦ (y, inl (refl, first_any (g y) x here), here)
        | inr later ↦ let (z, first, there) = first_joined g ys x later.1 in (z, inr (later.0, first), there)
      ]

  pub first_map : {Y : Type 0} (g : Y → X) (ys : List Y) (x : X) → First P (map g ys) x → (y : Y) × First (λ z. P (g z)) ys y × (g y ≡ x)
  first_map g [] x h = elim h [ ]
  first_map g (y ∷ ys) x (inl h) = (y, inl (refl, h.1), h.0)
  first_map g (y ∷ ys) x (inr h) = let (z, first, e) = first_map g ys x h.1 in (z, inr (h.0, first), e)

  pub first_cond : (b : Bool) (xs : List X) (x : X) → First P (cond b xs []) x → (b ≡ true) × First P xs x
  first_cond b xs x = cond_both b xs [] (λ l. First P l x → (b ≡ true) × First P xs x) (λ e h. (e, h)) (λ e h. elim h [ ])

-- the first of the numbers from a on
pub first_counting : (P : ℕ → Type 0) (a n x : ℕ) → First P (range_with_len a n) x → (x < a + n) × ((k : ℕ) → a ≤ k → k < a + n → P k → x ≤ k)
first_counting P a zero x h = elim h [ ]
first_counting P a (suc n) x (inl h) = (omega (arith, h.0), λ k l u p. omega (arith, h.0))
first_counting P a (suc n) x (inr h) =
    let (inside, low) = first_counting P (a + 1) n x h.1 in
    (omega arith, λ k l u p. elim (cases_eq a k) [ inl e ↦ absurd (h.0 (rw e p)) | inr later ↦ low k (omega arith) (omega arith) p ])
