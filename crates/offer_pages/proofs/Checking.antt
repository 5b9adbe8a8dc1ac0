-- The checks of an instance, element by element.
-- Assumes nothing.
use Rattle.std.proofs.Common.{◌≡◌, ℕ, ◌+◌, ◌<◌, Bool, true, false, List, [], ◌∷◌, map, length, Decides, sym, refl, ◌∙◌, subst, arith}
use Rattle.std.specs.Bool.{MatchBool}
use Rattle.std.specs.List.{AllByRecursion, AllWithin, HoldsAt, range_with_len}
use Rattle.std.proofs.lemmas.List.FromFn.{length-range_with_len, get_or-range_with_len}
use Rattle.std.proofs.lemmas.Bool.{false≢true}

-- a test that comes out as it should
pub decides_yes : {P : Type 0} → P → Decides true P
decides_yes p = (λ e. p, λ h. refl)

pub decides_no : {P : Type 0} → (P → ⊥) → Decides false P
decides_no no_p = (λ e. absurd (false≢true e), λ p. absurd (no_p p))

-- what each number of a range passes, where a test over it says whether each does
pub all_in_range : (P : ℕ → Type 0) (n : ℕ) (r : Bool) → MatchBool r (AllWithin P (range_with_len 0 n) 0 (length (range_with_len 0 n))) ((k : ℕ) × (k < length (range_with_len 0 n)) × HoldsAt (λ x. P x → ⊥) (range_with_len 0 n) k) → Decides r ((k : ℕ) → k < n → P k)
all_in_range P n true all =
    decides_yes (λ k h. let same : 0 + k ≡ k = omega arith in subst P (get_or-range_with_len 0 n k 0 h ∙ same) (all k 0 (omega arith) (omega (arith, h, length-range_with_len 0 n))))
all_in_range P n false (k, l, fails) =
    let h : k < n = omega (arith, l, length-range_with_len 0 n) in
    let same : 0 + k ≡ k = omega arith in
    decides_no (λ all. fails 0 (subst P (sym (get_or-range_with_len 0 n k 0 h ∙ same)) (all k h)))
