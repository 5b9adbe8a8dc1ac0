-- Numbers in base ten: their value, and that their text is the one that `decimal` writes.
use Rattle.std.proofs.Common.{◌≡◌, ℕ, ◌+◌, ◌-◌, ◌*◌, ◌^◌, ◌<◌, ◌≤◌, ◌⊎◌, List, [], ◌∷◌, ◌++◌, length, get_or, take, drop, decimal, sym, refl, ap, ◌∙◌, subst, inl, inr, arith, rules}
use Rattle.std.specs.Str.Parse.{digits_value, digits_value_after}
use Rattle.std.specs.Int.{IsInRange}
use Rattle.std.specs.Char.{digit_value as value_of_digit}
use Rattle.std.specs.List.{AllByRecursion}
use Rattle.std.proofs.lemmas.Fmt.{decimal-digits_value, digits_decimal, decimal_nonempty, first_decimal, decimal_digit}
use Rattle.std.proofs.lemmas.Int.Digits.{digits_value_more}
use Rattle.std.proofs.ByRecursion.{All-get_or}
use Rattle.std.proofs.lemmas.List.{take-append-drop}
use Rattle.std.proofs.lemmas.Str.Parse.{IsNumeralModel, numerals_by_value}
use Rattle.std.proofs.lemmas.Bool.{cases_eq}
use Rattle.std.proofs.lemmas.Bool.Decides.{nat_tests}
use Rattle.digits.specs.Numbers.{BaseTen}

pub digits_own : IsNumeralModel (AllByRecursion (IsInRange 48 57)) (digits_value 10)
digits_own = numerals_by_value _ (search rules)

digit_value : (c : ℕ) → IsInRange 48 57 c → value_of_digit c ≡ c - 48
digit_value c h = grind (arith, nat_tests)

-- one digit more
pub value_next : (bs : List ℕ) (i : ℕ) → i < length bs → AllByRecursion (IsInRange 48 57) bs → digits_value 10 (take (i + 1) bs) ≡ digits_value 10 (take i bs) * 10 + (get_or bs i 0 - 48)
value_next bs i h ds =
    digits_value_more 10 bs i h ∙ ap (λ d. digits_value 10 (take i bs) * 10 + d) (digit_value (get_or bs i 0) (All-get_or (IsInRange 48 57) bs i 0 h ds))

after_ge : (n : ℕ) (bs : List ℕ) → n ≤ digits_value_after 10 n bs
after_ge n [] = omega arith
after_ge n (b ∷ bs) = omega (arith, after_ge (n * 10 + value_of_digit b) bs)

after-append : (n : ℕ) (cs bs : List ℕ) → digits_value_after 10 n (cs ++ bs) ≡ digits_value_after 10 (digits_value_after 10 n cs) bs
after-append n [] bs = refl
after-append n (c ∷ cs) bs = after-append (n * 10 + value_of_digit c) cs bs

-- a front writes no larger number
pub front_value_le : (bs : List ℕ) (i : ℕ) → digits_value 10 (take i bs) ≤ digits_value 10 bs
front_value_le bs i =
    subst (λ (n : ℕ). digits_value 10 (take i bs) ≤ n) (sym (after-append 0 (take i bs) (drop i bs)) ∙ ap (digits_value_after 10 0) (take-append-drop i bs))
    (after_ge (digits_value 10 (take i bs)) (drop i bs))

pub decimal_of_value : (bs : List ℕ) → BaseTen bs → digits_value 10 bs < 2 ^ 64 → bs ≡ decimal (digits_value 10 bs)
decimal_of_value bs h small = sym (decimal-digits_value digits_own bs h.0 h.1 h.2 small)

no_zero_first : (n : ℕ) → n < 2 ^ 64 → (n ≡ 0) ⊎ (n ≡ 0 → ⊥) → get_or (decimal n) 0 0 ≡ 48 → length (decimal n) ≡ 1
no_zero_first n small (inl z) e = ap (λ m. length (decimal m)) z ∙ ap length (decimal_digit 0 (omega arith))
no_zero_first n small (inr p) e = absurd (omega (arith, first_decimal n (omega arith) small))

pub decimal_base_ten : (n : ℕ) → n < 2 ^ 64 → BaseTen (decimal n)
decimal_base_ten n small = (digits_decimal digits_own n small, decimal_nonempty n small, no_zero_first n small (cases_eq n 0))
