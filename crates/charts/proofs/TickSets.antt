-- Sets of ticks: the empty one, what one tick more does, and that no tick above 63 is in any.
-- Assumes nothing.
use Rattle.std.proofs.Common.{◌≡◌, ℕ, zero, suc, ◌+◌, ◌-◌, ◌*◌, ◌/◌, ◌%◌, ◌^◌, ◌<◌, ◌≤◌, false, ◌&&◌, ◌||◌, eqb, ltb, get_or, replicate, sym, refl, ap, ◌∙◌, ⊎_elim, pow-suc, arith}
use native.Mathlib.Nat.{zero-div, div-eq_of_lt}
use lib.Bits.{bit_and, bit_or}
use Rattle.std.proofs.lemmas.Nat.{pow-add, pow_below, shl-shr, one_shl, and_mask, or_shr, or_mod}
use Rattle.std.proofs.lemmas.List.{get_or-replicate, get_or_past, length-replicate}
use Rattle.std.proofs.lemmas.Bool.{cases_lt, cases_eq, cases_order, eq-eqb, ne_eqb, lt-ltb}
use Rattle.charts.specs.declared.ticks.Ticks.{Ticks}
use Rattle.charts.specs.TickSets.{has, no_ticks}

pub none_has : (s : Ticks) → s.bits ≡ 0 → (t : ℕ) → has s t ≡ false
unfolding has
none_has s e t = ne_eqb (s.bits / 2 ^ t % 2) 1 (λ one. omega (arith, zero-div (2 ^ t), ap (λ (b : ℕ). b / 2 ^ t) e))

-- a power of two has one bit, its own
pow_bit : (k t : ℕ) → eqb (2 ^ k / 2 ^ t % 2) 1 ≡ eqb k t
pow_bit k t = ⊎_elim
    (λ e.
    let single : 2 ^ t ≡ 1 * 2 ^ t = omega arith in
    let one : 2 ^ k / 2 ^ t ≡ 1 = ap (λ n. 2 ^ n / 2 ^ t) e ∙ ap (λ n. n / 2 ^ t) single ∙ shl-shr 1 t in
    eq-eqb (2 ^ k / 2 ^ t % 2) 1 (omega arith) ∙ sym (eq-eqb k t e))
    (⊎_elim
    (λ lt.
    let none : 2 ^ k / 2 ^ t ≡ 0 = div-eq_of_lt (pow_below k t lt) in
    ne_eqb (2 ^ k / 2 ^ t % 2) 1 (λ e. omega arith) ∙ sym (ne_eqb k t (λ e. omega arith)))
    (λ gt.
    let far : suc (k - t - 1) + t ≡ k = omega arith in
    let even : 2 ^ k / 2 ^ t ≡ 2 ^ suc (k - t - 1) = ap (λ n. 2 ^ n / 2 ^ t) (sym far) ∙ ap (λ n. n / 2 ^ t) (pow-add 2 (suc (k - t - 1)) t) ∙ shl-shr (2 ^ suc (k - t - 1)) t in
    ne_eqb (2 ^ k / 2 ^ t % 2) 1 (λ e. omega (arith, even, pow-suc 2 (k - t - 1))) ∙ sym (ne_eqb k t (λ e. omega arith))))
    (cases_order k t)

-- a bit of two numbers together is one where one of theirs is
or_bit : (a b t : ℕ) → eqb (bit_or a b / 2 ^ t % 2) 1 ≡ (eqb (a / 2 ^ t % 2) 1 || eqb (b / 2 ^ t % 2) 1)
or_bit a b t = ap (λ n. eqb n 1) (ap (λ n. n % 2) (or_shr a b t) ∙ or_mod (a / 2 ^ t) (b / 2 ^ t) 1) ∙ either (a / 2 ^ t % 2) (b / 2 ^ t % 2) (omega arith) (omega arith)
  where
    either : (x y : ℕ) → x < 2 → y < 2 → eqb (bit_or x y) 1 ≡ (eqb x 1 || eqb y 1)
    either zero zero h g = refl
    either zero (suc zero) h g = refl
    either (suc zero) zero h g = refl
    either (suc zero) (suc zero) h g = refl
    either zero (suc (suc y)) h g = absurd (omega arith)
    either (suc zero) (suc (suc y)) h g = absurd (omega arith)
    either (suc (suc x)) y h g = absurd (omega arith)

-- no tick above 63 is in a set
pub high_has : (s : Ticks) (t : ℕ) → 63 < t → has s t ≡ false
unfolding has
high_has s t lt =
    let wide : s.bits < 2 ^ t = omega (arith, s.fits, pow_grows) in
    let none : s.bits / 2 ^ t ≡ 0 = div-eq_of_lt wide in
    ne_eqb (s.bits / 2 ^ t % 2) 1 (λ one. omega arith)
  where
    pow_grows : 2 ^ 64 ≤ 2 ^ t
    pow_grows = ⊎_elim (λ e. omega (arith, ap (λ n. 2 ^ n) e)) (λ ne. omega (arith, pow_below 64 t (omega arith))) (cases_eq 64 t)

pub bit_has : (s : Ticks) (t : ℕ) → eqb (bit_and (s.bits / 2 ^ t) 1) 1 ≡ has s t
unfolding has
bit_has s t = ap (λ b. eqb b 1) (and_mask (s.bits / 2 ^ t) 1)

-- one tick more
pub more_has : (s r : Ticks) (k : ℕ) → k < 64 → r.bits ≡ bit_or s.bits ((1 * 2 ^ k) % 2 ^ 64) → (t : ℕ) → has r t ≡ (has s t || (ltb k 64 && eqb k t))
unfolding has
more_has s r k lt e t =
    ap (λ n. eqb (n / 2 ^ t % 2) 1) (e ∙ ap (bit_or s.bits) (one_shl k 64 lt))
    ∙ or_bit s.bits (2 ^ k) t
    ∙ ap (λ b. eqb (s.bits / 2 ^ t % 2) 1 || b) (pow_bit k t ∙ ap (λ b. b && eqb k t) (sym (lt-ltb k 64 lt)))

-- each of many empty sets is empty
pub all_none : (n : ℕ) (s : Ticks) → ((t : ℕ) → has s t ≡ false) → (e t : ℕ) → has (get_or (replicate n s) e no_ticks) t ≡ false
all_none n s none e t = ⊎_elim
    (λ lt. ap (λ x. has x t) (get_or-replicate n e s no_ticks lt) ∙ none t)
    (λ ge. ap (λ x. has x t) (get_or_past (replicate n s) e no_ticks (omega (arith, length-replicate n s))) ∙ none_has no_ticks refl t)
    (cases_lt e n)
