-- Bytes that are written one part after another, and digits to the base 16 by bytes.
-- Assumes nothing.
use Rattle.std.proofs.Common.{◌≡◌, ℕ, zero, suc, ◌+◌, ◌-◌, ◌*◌, ◌/◌, ◌%◌, ◌^◌, ◌<◌, ◌≤◌, ◌==◌, Bool, true, ◌&&◌, List, [], ◌∷◌, ◌++◌, length, take, drop, set, decimal, slice_index, sym, refl, ap, ◌∙◌, inl, inr, arith, length-append}
use Rattle.std.specs.Int.{byte_at, bytes_high_first}
use borrow.Rule.Slice.PartMut.{put_mid}
use Rattle.std.proofs.lemmas.Bool.{and_parts, cases_lt, eqb-true}
use Rattle.std.proofs.lemmas.List.{append-nil, drop_more, set_at, append_assoc, take-append-drop, take_at, length_push}
use Rattle.std.proofs.lemmas.Slice.{take-put_mid, drop-put_mid, drop-append-drop}
use Rattle.std.proofs.Math.Nat.{div-div-eq-div-mul, pow-succ'}
use Rattle.std.proofs.lemmas.Nat.{pow-add, mul-pow}
use lib.Count.{ones}
use Rattle.hex.specs.Hex.{encode_with, encode_lower, lower_digits}
use Rattle.costs.specs.declared.zones.Zones.{Zones}
use Rattle.costs.specs.ZoneSets.{zones_text}
use Rattle.costs.specs.Texts.{hex_digits, hex_digit, spaced}

-- one byte after t
put_push : (t d : List ℕ) (k x : ℕ) → length t ≡ k → k < length d → set (t ++ drop k d) k x ≡ (t ++ (x ∷ [])) ++ drop (k + 1) d
put_push t d k x e h = ap (λ (r : List ℕ). set (t ++ r) k x) (drop_more d k 0 h) ∙ set_at t _ _ x k e ∙ sym (append_assoc t (x ∷ []) (drop (k + 1) d))

-- s, a byte x, and t by a call on the bytes that are left of it
pub put_parts : (s t d o w : List ℕ) (k x len : ℕ) → k ≡ length s → len ≡ length (s ++ (x ∷ t)) → len ≤ length d → o ≡ s ++ drop (length s) d → w ≡ t
    → put_mid (k + 1) (len - (k + 1)) (set o k x) w ≡ (s ++ (x ∷ t)) ++ drop (length (s ++ (x ∷ t))) d
put_parts s t d o w k x len e size fits f h =
    let long : len ≡ k + 1 + length t = omega (arith, length-append s (x ∷ t)) in
    let whole : length w ≡ length t = ap length h in
    let mark : length (s ++ (x ∷ [])) ≡ k + 1 = length_push s x ∙ omega arith in
    let o' : o ≡ s ++ drop k d = f ∙ ap (λ (n : ℕ). s ++ drop n d) (sym e) in
    let held : set o k x ≡ (s ++ (x ∷ [])) ++ drop (k + 1) d = ap (λ (l : List ℕ). set l k x) o' ∙ put_push s d k x (sym e) (omega arith) in
    let within : k + 1 ≤ length (set o k x) = omega (arith, ap length held, length-append (s ++ (x ∷ [])) (drop (k + 1) d)) in
    let front : take len (put_mid (k + 1) (len - (k + 1)) (set o k x) w) ≡ s ++ (x ∷ t) =
    take-put_mid (k + 1) (len - (k + 1)) (set o k x) w len (omega arith) within
    ∙ ap (λ (l : List ℕ). take (k + 1) l ++ w) held ∙ ap (λ (l : List ℕ). l ++ w) (take_at (s ++ (x ∷ [])) (drop (k + 1) d) (k + 1) mark)
    ∙ append_assoc s (x ∷ []) w ∙ ap (λ (l : List ℕ). s ++ (x ∷ l)) h in
    let rest : drop len (put_mid (k + 1) (len - (k + 1)) (set o k x) w) ≡ drop len d =
    drop-put_mid (k + 1) (len - (k + 1)) (set o k x) w len (omega arith) within (omega arith)
    ∙ ap (drop len) held ∙ drop-append-drop (k + 1) d (s ++ (x ∷ [])) len (omega arith) mark in
    sym (take-append-drop len _) ∙ ap (λ (l : List ℕ). l ++ drop len (put_mid (k + 1) (len - (k + 1)) (set o k x) w)) front
    ∙ ap (λ (l : List ℕ). (s ++ (x ∷ t)) ++ l) rest ∙ ap (λ (n : ℕ). (s ++ (x ∷ t)) ++ drop n d) size

pub length-spaced : (s t : List ℕ) → length (spaced s t) ≡ length s + 1 + length t
length-spaced s t = simp length-append (omega arith)

pub length-hex_digits : (k n : ℕ) → length (hex_digits k n) ≡ k
unfolding hex_digits
length-hex_digits zero n = refl
length-hex_digits (suc k) n = length_push _ _ ∙ omega (arith, length-hex_digits k (n / 16))

pub length_zones : (z : Zones) → length (zones_text z) ≡ length (decimal (ones z.bits)) + 17
length_zones z = length-append (decimal (ones z.bits)) (47 ∷ hex_digits 16 z.bits) ∙ omega (arith, length-hex_digits 16 z.bits)

-- the digits of the last j + k places
hex_digits-add : (j k n : ℕ) → hex_digits (j + k) n ≡ hex_digits j (n / 16 ^ k) ++ hex_digits k n
unfolding hex_digits
hex_digits-add j zero n = let all : j + 0 ≡ j = omega arith in let same : n / 16 ^ 0 ≡ n = omega arith in rw (all, same) (sym (append-nil (hex_digits j n)))
hex_digits-add j (suc k) n =
    let up : j + suc k ≡ suc (j + k) = omega arith in
    let next : n / 16 / 16 ^ k ≡ n / 16 ^ suc k = div-div-eq-div-mul n 16 (16 ^ k) ∙ ap (λ (m : ℕ). n / m) (sym (pow-succ' 16 k)) in
    rw up (ap (λ (l : List ℕ). l ++ (hex_digit (n % 16) ∷ [])) (hex_digits-add j k (n / 16)) ∙ append_assoc (hex_digits j (n / 16 / 16 ^ k)) (hex_digits k (n / 16)) (hex_digit (n % 16) ∷ [])
    ∙ ap (λ (m : ℕ). hex_digits j m ++ (hex_digits k (n / 16) ++ (hex_digit (n % 16) ∷ []))) next)

-- the first n digits are the same in both tables
abbrev same_below : ℕ → Bool
same_below zero = true
same_below (suc n) = (slice_index lower_digits n == hex_digit n) && same_below n

same_at : (n d : ℕ) → same_below n ≡ true → d < n → slice_index lower_digits d ≡ hex_digit d
same_at zero d h lt = absurd (omega arith)
same_at (suc n) d h lt =
    let parts = and_parts (slice_index lower_digits n == hex_digit n) (same_below n) h in
    elim (cases_lt d n) [
      | inl below ↦ same_at n d parts.1 below
      | inr top ↦ let last : d ≡ n = omega arith in rw last (eqb-true _ _ parts.0)
    ]

byte_is : (k n : ℕ) → byte_at k n ≡ n / 16 ^ (2 * k) % 256
byte_is zero n = let one : n / 16 ^ (2 * 0) ≡ n = omega arith in ap (λ (m : ℕ). m % 256) (sym one)
byte_is (suc k) n =
    let twice : 2 * suc k ≡ suc k + suc k = omega arith in
    let worth : 16 ^ (2 * suc k) ≡ 256 ^ suc k = ap (λ (e : ℕ). 16 ^ e) twice ∙ pow-add 16 (suc k) (suc k) ∙ sym (mul-pow 16 16 (suc k)) in
    ap (λ (m : ℕ). n / m % 256) (sym worth)

-- two digits to each byte
pub hex_of_bytes : (k n : ℕ) → encode_lower (bytes_high_first k n) ≡ hex_digits (2 * k) n
unfolding hex_digits encode_with
hex_of_bytes zero n = refl
hex_of_bytes (suc k) n =
    let up : 2 * suc k ≡ 2 + 2 * k = omega arith in
    let m = n / 16 ^ (2 * k) in
    let byte : byte_at k n ≡ m % 256 = byte_is k n in
    let high : slice_index lower_digits (byte_at k n / 16) ≡ hex_digit (m / 16 % 16) = same_at 16 (byte_at k n / 16) refl (omega arith) ∙ ap hex_digit (omega arith) in
    let low : slice_index lower_digits (byte_at k n % 16) ≡ hex_digit (m % 16) = same_at 16 (byte_at k n % 16) refl (omega arith) ∙ ap hex_digit (omega arith) in
    let rest = hex_of_bytes k n in
    rw (up, high, low, rest) (sym (hex_digits-add 2 (2 * k) n))
