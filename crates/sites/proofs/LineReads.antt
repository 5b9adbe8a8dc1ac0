-- Numbers read off a line, one after another. Assumes nothing.
use Rattle.std.proofs.Common.{◌≡◌, ℕ, ◌+◌, ◌<◌, ◌≤◌, suc, Bool, true, false, not, cond, eqb, ltb, ne_eqb, List, [], ◌∷◌, ◌++◌, length, take, drop, set, replicate, Some, None, Ok, Err, Result, decimal, Option, sym, refl, ap, ◌∙◌, subst, arith}
use Rattle.std.specs.Str.Parse.{digits_value}
use Rattle.std.specs.List.{AllByRecursion, position_or_len}
use Rattle.std.specs.Option.{unwrap_or}
use Rattle.std.specs.Result.{result_ok}
use Rattle.std.proofs.lemmas.Bool.{eqb-true, ltb-false}
use Rattle.std.proofs.lemmas.List.Sums.{prefix_len-le-length}
use Rattle.std.proofs.lemmas.Fmt.{digits_value-decimal}
use Rattle.std.proofs.ByRecursion.{All-weaker, All-push}
use Rattle.std.proofs.lemmas.List.{append-nil, append_assoc, length-replicate, length-set, nil_from_length, take_all, take_at, take-append-drop, take_more_set}
use Rattle.digits.specs.declared.numbers.ReadFault.{ReadFault}
use Rattle.digits.specs.declared.numbers.ReadFault.TheVariants.{Malformed, TooLarge}
use Rattle.digits.specs.Numbers.{NumberRead}
use Rattle.digits.proofs.NumberReads.{decimal_base_ten, digits_own}
use Rattle.sites.specs.Records.{numbers_text}
use Rattle.sites.specs.Reading.{Ended, ReadAs}
use Rattle.std.specs.Bool.{then_some}
use Rattle.std.specs.Result.{OkIff}
use Rattle.std.proofs.lemmas.Bool.Decides.{nat_tests}
use Rattle.sites.proofs.Texts.{Stops, split_digits}
use Rattle.costs.specs.TextLaws.{from_zero}

-- what the number reader refuses is the text of no number of at most 65,535
pub no_number : (bs : List ℕ) (f : ReadFault) → NumberRead 4294967295 bs (Err f) → (n : ℕ) → n ≤ 65535 → bs ≡ decimal n → ⊥
no_number bs Malformed h n small e = h (subst (λ (t : List ℕ). Rattle.digits.specs.Numbers.BaseTen t) (sym e) (decimal_base_ten n (omega arith)))
no_number bs TooLarge h n small e = let v = digits_value-decimal digits_own n (omega arith) in let w = ap (digits_value 10) e in omega (arith, h.1)

pub tail_same : (a b : ℕ) (xs ys : List ℕ) → a ∷ xs ≡ b ∷ ys → xs ≡ ys
tail_same a b xs ys e = cc

decimal_without : (n : ℕ) → n ≤ 65535 → AllByRecursion (λ x. x ≡ 32 → ⊥) (decimal n)
decimal_without n h = All-weaker (λ x. 48 ≤ x) (λ x. x ≡ 32 → ⊥) (λ x k e. omega arith) (decimal n) (from_zero n (omega arith))

-- what stands before the first c can be read off
pub until : (c : ℕ) (xs ys r s : List ℕ) → AllByRecursion (λ x. x ≡ c → ⊥) xs → AllByRecursion (λ x. x ≡ c → ⊥) ys → xs ++ (c ∷ r) ≡ ys ++ (c ∷ s) → xs ≡ ys
until c [] [] r s p q e = refl
until c [] (y ∷ ys) r s p q e = let h : y ≡ c = cc in absurd (q.0 h)
until c (x ∷ xs) [] r s p q e = let h : x ≡ c = cc in absurd (p.0 h)
until c (x ∷ xs) (y ∷ ys) r s p q e =
    let t : xs ++ (c ∷ r) ≡ ys ++ (c ∷ s) = cc in let k = until c xs ys r s p.1 q.1 t in cc

-- a list with c in it is not without c
pub not_without : (c : ℕ) (xs ys : List ℕ) → AllByRecursion (λ x. x ≡ c → ⊥) (xs ++ (c ∷ ys)) → ⊥
not_without c [] ys h = h.0 refl
not_without c (x ∷ xs) ys h = not_without c xs ys h.1

-- what a number stands before can be read off
pub ended_stops : (xs : List ℕ) → Ended xs → Stops xs
ended_stops [] e = tt
ended_stops (x ∷ xs) e = omega (arith, e)

pub numbers_ended : (ns : List ℕ) → Ended (numbers_text ns)
numbers_ended [] = tt
numbers_ended (n ∷ ns) = refl

-- where the first space stands, or where there is none
abbrev spaced : List ℕ → ℕ
spaced = position_or_len (λ x. eqb x 32)

picked : (b : Bool) (n m : ℕ) (r : Option ℕ) → r ≡ cond b (Some n) None → (b ≡ false → n ≡ m) → unwrap_or r m ≡ n
picked true n m r e h = rw e refl
picked false n m r e h = rw e (sym (h refl))

pub space_found : (xs : List ℕ) (r : Option ℕ) → r ≡ cond (ltb (spaced xs) (length xs)) (Some (spaced xs)) None → unwrap_or r (length xs) ≡ spaced xs
space_found xs r e =
    let few = prefix_len-le-length (λ x. not (eqb x 32)) xs in
    picked _ _ _ r e (λ (f : ltb (spaced xs) (length xs) ≡ false). omega (arith, ltb-false (spaced xs) (length xs) f))

pub space_within : (xs : List ℕ) → spaced xs ≤ length xs
space_within = prefix_len-le-length (λ x. not (eqb x 32))

-- the first space is where the digits end
first_space : (xs more : List ℕ) → AllByRecursion (λ x. x ≡ 32 → ⊥) xs → Ended more → spaced (xs ++ more) ≡ length xs
first_space [] [] h e = refl
first_space [] (x ∷ more) h e = ap (λ n. cond (not (eqb n 32)) (1 + spaced more) 0) e
first_space (x ∷ xs) more h e =
    let apart : eqb x 32 ≡ false = ne_eqb x 32 h.0 in
    let tail = first_space xs more h.1 e in
    rw apart (omega arith)

-- what stands from the first space on
ended_from : (xs : List ℕ) → Ended (drop (spaced xs) xs)
ended_from [] = tt
ended_from (x ∷ xs) = go (eqb x 32) refl (ended_from xs)
  where
    go : (b : Bool) → eqb x 32 ≡ b → Ended (drop (spaced xs) xs) → Ended (drop (cond (not b) (1 + spaced xs) 0) (x ∷ xs))
    go true e h = eqb-true x 32 e
    go false e h = let P : ℕ → Type 0 = λ k. Ended (drop k (x ∷ xs)) in let e : suc (spaced xs) ≡ 1 + spaced xs = omega arith in subst P e h

pub number_front : (bs : List ℕ) (end n : ℕ) → end ≡ spaced bs → take end bs ≡ decimal n → (bs ≡ decimal n ++ drop end bs) × Ended (drop end bs)
number_front bs end n at e = (sym (take-append-drop end bs) ∙ ap (λ t. t ++ drop end bs) e, let P : ℕ → Type 0 = λ k. Ended (drop k bs) in subst P (sym at) (ended_from bs))

-- where the bytes up to the next space are no number, no number stands there
pub no_next_number : (bs : List ℕ) (end : ℕ) → end ≡ spaced bs → ((n : ℕ) → n ≤ 65535 → take end bs ≡ decimal n → ⊥) → (n : ℕ) (more : List ℕ) → n ≤ 65535 → Ended more → bs ≡ decimal n ++ more → ⊥
no_next_number bs end at none n more small e f =
    let long : end ≡ length (decimal n) = at ∙ ap spaced f ∙ first_space (decimal n) more (decimal_without n small) e in
    none n small (ap (λ k. take k bs) long ∙ ap (take (length (decimal n))) f ∙ take_at (decimal n) more (length (decimal n)) refl)

-- so many numbers of those that are wanted are read, and what is left holds the others
pub record ReadSoFar (bytes rest : List ℕ) (count : ℕ) (read : List ℕ) (k : ℕ) : Type 0 where
  pub size : length read ≡ count
  pub within : k ≤ count
  pub few : AllByRecursion (λ n. n ≤ 65535) (take k read)
  pub text : bytes ≡ numbers_text (take k read) ++ rest
  pub left : (ns : List ℕ) → (length ns ≡ count) × AllByRecursion (λ n. n ≤ 65535) ns → bytes ≡ numbers_text ns → (ms : List ℕ) × (length ms + k ≡ count) × AllByRecursion (λ n. n ≤ 65535) ms × (rest ≡ numbers_text ms)

pub none_read : (bytes : List ℕ) (count : ℕ) → ReadSoFar bytes bytes count (replicate count 0) 0
none_read bytes count =
    record {
      size = length-replicate count 0;
      within = omega arith;
      few = tt;
      text = refl;
      left = λ ns h e. (ns, omega (arith, h.0), h.1, e);
    }

numbers_push : (ns : List ℕ) (n : ℕ) (more : List ℕ) → numbers_text (ns ++ n ∷ []) ++ more ≡ numbers_text ns ++ (32 ∷ (decimal n ++ more))
numbers_push [] n more = ap (λ t. 32 ∷ (t ++ more)) (append-nil (decimal n))
numbers_push (m ∷ ns) n more =
    ap (λ t. 32 ∷ t)
    (append_assoc (decimal m) (numbers_text (ns ++ n ∷ [])) more ∙ ap (λ t. decimal m ++ t) (numbers_push ns n more)
    ∙ sym (append_assoc (decimal m) (numbers_text ns) (32 ∷ (decimal n ++ more))))

module _ (bytes rest : List ℕ) (count : ℕ) (read : List ℕ) (k : ℕ) (h : ReadSoFar bytes rest count read k) where
  pub next_read : (n : ℕ) (below : List ℕ) → k < count → n ≤ 65535 → rest ≡ 32 ∷ (decimal n ++ below) → Ended below → ReadSoFar bytes below count (set read k n) (k + 1)
  next_read n below more small e ended =
      let size = h.size in
      let taken = take_more_set read k n (omega arith) in
      record {
        size = length-set read k n ∙ size;
        within = omega arith;
        few = subst (AllByRecursion (λ m. m ≤ 65535)) (sym taken) (All-push (λ m. m ≤ 65535) (take k read) n h.few small);
        text = h.text ∙ ap (λ t. numbers_text (take k read) ++ t) e ∙ sym (numbers_push (take k read) n below) ∙ ap (λ t. numbers_text t ++ below) (sym taken);
        left = λ ns w f. let l = h.left ns w f in go l.0 l.1 l.2 l.3;
      }
    where
      go : (ms : List ℕ) → length ms + k ≡ count → AllByRecursion (λ m. m ≤ 65535) ms → rest ≡ numbers_text ms → (ls : List ℕ) × (length ls + (k + 1) ≡ count) × AllByRecursion (λ m. m ≤ 65535) ls × (below ≡ numbers_text ls)
      go [] c a t = absurd (omega arith)
      go (m ∷ ms) c a t =
          let same : decimal n ++ below ≡ decimal m ++ numbers_text ms = tail_same 32 32 _ _ (sym e ∙ t) in
          let split = split_digits (decimal n) (decimal m) below (numbers_text ms) (from_zero n (omega arith)) (from_zero m (omega (arith, a.0))) (ended_stops below ended) (ended_stops _ (numbers_ended ms)) same in
          (ms, omega arith, a.1, split.1)

  pub none_next : k < count → ((n : ℕ) (more : List ℕ) → n ≤ 65535 → Ended more → rest ≡ 32 ∷ (decimal n ++ more) → ⊥) → (ns : List ℕ) → (length ns ≡ count) × AllByRecursion (λ n. n ≤ 65535) ns → bytes ≡ numbers_text ns → ⊥
  none_next more none ns w f = let l = h.left ns w f in go l.0 l.1 l.2 l.3
    where
      go : (ms : List ℕ) → length ms + k ≡ count → AllByRecursion (λ m. m ≤ 65535) ms → rest ≡ numbers_text ms → ⊥
      go [] c a t = omega arith
      go (m ∷ ms) c a t = none m (numbers_text ms) a.0 (numbers_ended ms) t

  pub whole_read : count ≤ k → length rest ≡ 0 → ((length read ≡ count) × AllByRecursion (λ n. n ≤ 65535) read) × (bytes ≡ numbers_text read)
  whole_read end none =
      let size = h.size in
      let all = take_all k read (omega arith) in
      let empty : rest ≡ [] = nil_from_length rest none in (
        (size, subst (AllByRecursion (λ m. m ≤ 65535)) all h.few),
        h.text ∙ ap (λ t. numbers_text (take k read) ++ t) empty ∙ append-nil (numbers_text (take k read)) ∙ ap numbers_text all,
      )

  pub more_left : count ≤ k → 0 < length rest → (ns : List ℕ) → (length ns ≡ count) × AllByRecursion (λ n. n ≤ 65535) ns → bytes ≡ numbers_text ns → ⊥
  more_left end some ns w f = let l = h.left ns w f in go l.0 l.1 l.3
    where
      go : (ms : List ℕ) → length ms + k ≡ count → rest ≡ numbers_text ms → ⊥
      go [] c t = omega (arith, ap length t)
      go (m ∷ ms) c t = omega arith

  -- what is read when all are, where the bytes have to end there
  pub all_read : count ≤ k → (b : Bool) → b ≡ eqb (length rest) 0 → ReadAs numbers_text (λ ns. (length ns ≡ count) × AllByRecursion (λ n. n ≤ 65535) ns) bytes (then_some b read)
  all_read end true e = whole_read end (eqb-true (length rest) 0 (sym e))
  all_read end false e = more_left end (grind (arith, nat_tests))

-- the same, where the refusal is only a `None`
pub number_unread : (bs : List ℕ) (r : Result ℕ ReadFault) → NumberRead 4294967295 bs r → None ≡ result_ok r → (n : ℕ) → n ≤ 65535 → bs ≡ decimal n → ⊥
number_unread bs (Ok n) h e = cc
number_unread bs (Err f) h e = no_number bs f h

pub number_told : (bs : List ℕ) (r : Result ℕ ReadFault) (v : ℕ) → NumberRead 4294967295 bs r → Some v ≡ result_ok r → (bs ≡ decimal v) × (v ≤ 4294967295)
number_told bs (Ok n) v h e = let same : n ≡ v = cc in (h.0 ∙ ap decimal same, omega (arith, h.1, same))
number_told bs (Err f) v h e = let z : ◌≡◌ {A = ℕ} 0 1 = cc in absurd (omega arith)

-- a number that was read, where it is one of those looked for
pub number_within : {E : Type 0} (bs : List ℕ) (v : ℕ) (made : Result ℕ E) → (bs ≡ decimal v) × (v ≤ 4294967295) → OkIff made (v < 65536) v → ReadAs decimal (λ n. n ≤ 65535) bs (result_ok made)
number_within bs v (Ok w) read h = (omega (arith, h.0, h.1), read.0 ∙ ap decimal (sym h.1))
number_within bs v (Err e) read large = λ n few same.
    let one = ap (digits_value 10) (sym read.0 ∙ same) in
    let a = digits_value-decimal digits_own v (omega (arith, read.1)) in
    let b = digits_value-decimal digits_own n (omega arith) in
    large (omega (arith, one, a, b))
