-- Texts that can be read again.
-- Assumes nothing.
use Rattle.std.specs.Prelude.{◌≡◌, ℕ, zero, suc, ◌+◌, ◌/◌, ◌%◌, ◌^◌, ◌<◌, ◌≤◌, List, [], ◌∷◌, ◌++◌, length, decimal, ◌≢◌, refl}
use Rattle.std.proofs.Common.{sym, ap, ◌∙◌, arith, pow-suc}
use Rattle.std.specs.List.{AllByRecursion}
use Rattle.std.proofs.lemmas.Fmt.{decimal_by_steps, decimal_injective}
use Rattle.std.proofs.ByRecursion.{All-push, All-weaker}
use Rattle.std.proofs.lemmas.List.{append_cancel_left, append_assoc, same_from_push}
use Rattle.std.proofs.lemmas.Bool.Decides.{nat_tests}
use Rattle.costs.specs.Texts.{Texts, Begins, ended, Apart, hex_digit, hex_digits}

-- what stands before the first c can be read off
pub until : (c : ℕ) (xs ys r s : List ℕ) → AllByRecursion (λ x. x ≢ c) xs → AllByRecursion (λ x. x ≢ c) ys → xs ++ (c ∷ r) ≡ ys ++ (c ∷ s) → xs ≡ ys
until c [] [] r s p q e = refl
until c [] (y ∷ ys) r s p q e = let h : y ≡ c = cc in absurd (q.0 h)
until c (x ∷ xs) [] r s p q e = let h : x ≡ c = cc in absurd (p.0 h)
until c (x ∷ xs) (y ∷ ys) r s p q e = let h : x ≡ y = cc in let t : xs ++ (c ∷ r) ≡ ys ++ (c ∷ s) = cc in let k = until c xs ys r s p.1 q.1 t in cc

-- and so can what stands after it
pub past : (c : ℕ) (xs ys r s : List ℕ) → xs ≡ ys → xs ++ (c ∷ r) ≡ ys ++ (c ∷ s) → r ≡ s
past c xs ys r s same e = let k = append_cancel_left ys (c ∷ r) (c ∷ s) (ap (λ (x : List ℕ). x ++ (c ∷ r)) (sym same) ∙ e) in cc

pub from_zero : (n : ℕ) → n < 2 ^ 64 → AllByRecursion (λ x. 48 ≤ x) (decimal n)
from_zero = decimal_by_steps (λ n ds. AllByRecursion (λ x. 48 ≤ x) ds) (λ n h. (omega arith, tt)) (λ n ds h k. All-push (λ x. 48 ≤ x) ds (48 + n % 10) k (omega arith))

hex_digit_ge : (d : ℕ) → 48 ≤ hex_digit d
hex_digit_ge d = grind (arith, nat_tests)

pub from_zero_hex : (k n : ℕ) → AllByRecursion (λ x. 48 ≤ x) (hex_digits k n)
unfolding hex_digits
from_zero_hex zero n = tt
from_zero_hex (suc k) n = All-push (λ x. 48 ≤ x) (hex_digits k (n / 16)) (hex_digit (n % 16)) (from_zero_hex k (n / 16)) (hex_digit_ge (n % 16))

pub without : (c : ℕ) (xs : List ℕ) → c < 48 → AllByRecursion (λ x. 48 ≤ x) xs → AllByRecursion (λ x. x ≢ c) xs
without c xs h = All-weaker (λ x. 48 ≤ x) (λ x. x ≢ c) (λ x k e. omega arith) xs

-- numbers are read off their decimals
pub decimal_reads_back : (m n : ℕ) (r s : List ℕ) → m < 2 ^ 64 → n < 2 ^ 64 → (c : ℕ) → c < 48 → decimal m ++ (c ∷ r) ≡ decimal n ++ (c ∷ s) → m ≡ n
decimal_reads_back m n r s p q c h e =
    decimal_injective m n p q (until c _ _ r s (without c _ h (from_zero m p)) (without c _ h (from_zero n q)) e)

hex_digit_same : (a b : ℕ) → a < 16 → b < 16 → hex_digit a ≡ hex_digit b → a ≡ b
hex_digit_same a b p q e = grind (arith, nat_tests)

pub hex_digits_same : (k m n : ℕ) → m < 16 ^ k → n < 16 ^ k → hex_digits k m ≡ hex_digits k n → m ≡ n
unfolding hex_digits
hex_digits_same zero m n p q e = omega arith
hex_digits_same (suc k) m n p q e =
    let p' = rw pow-suc at p in
    let q' = rw pow-suc at q in
    let ends = same_from_push (hex_digits k (m / 16)) (hex_digits k (n / 16)) (hex_digit (m % 16)) (hex_digit (n % 16)) e in
    let low = hex_digit_same (m % 16) (n % 16) (omega arith) (omega arith) ends.1 in
    let high = hex_digits_same k (m / 16) (n / 16) (omega arith) (omega arith) ends.0 in
    omega arith

-- a text with its space does not begin that of another cost
not_begun : {C : Type 0} {text : C → List ℕ} → Texts text → (a b : C) → (a ≢ b) → Begins (ended (text a)) (ended (text b)) → ⊥
not_begun {text = text} t a b ne h = ne (sym (t.reads b a [] h.0 (h.1 ∙ append_assoc (text a) (32 ∷ []) h.0)))

pub apart : {C : Type 0} {text : C → List ℕ} → Texts text → Apart text
apart {text = text} t =
    record {
      neither_begins = λ a b ne. (not_begun t a b ne, not_begun t b a (λ e. ne (sym e)));
      none_empty = λ c e. omega (arith, t.some c, ap length e);
      no_newline = t.plain;
    }
