-- A text is that of one list of records at most.
use Rattle.std.proofs.Common.{◌≡◌, ℕ, ◌<◌, ◌≤◌, cond, eqb, List, [], ◌∷◌, ◌++◌, Some, None, decimal, Option, sym, refl, ◌∙◌, arith}
use Rattle.std.specs.List.{AllByRecursion}
use Rattle.std.proofs.lemmas.Fmt.{decimal_injective}
use Rattle.std.proofs.lemmas.List.{append_assoc}
use Rattle.floors.specs.declared.lane_row.LaneRow.{LaneRow}
use Rattle.sites.specs.declared.records.Record.{Record}
use Rattle.sites.specs.declared.records.Record.TheVariants.{Horizon, Places, Lane, BothLanes, Tariff, Cart}
use Rattle.sites.specs.Records.{mark_first, mark_second, numbers, numbers_text, record_text, records_text, Fitting}
use Rattle.costs.specs.TextLaws.{from_zero}

-- what does not go on with a digit
abbrev pub Stops : List ℕ → Type 0
Stops [] = Unit {0}
Stops (x ∷ xs) = x < 48

-- what stands before the first byte below the digits can be read off, and so can what stands from there on
pub split_digits : (xs ys u v : List ℕ) → AllByRecursion (λ x. 48 ≤ x) xs → AllByRecursion (λ x. 48 ≤ x) ys → Stops u → Stops v → xs ++ u ≡ ys ++ v → (xs ≡ ys) × (u ≡ v)
split_digits [] [] u v p q s t e = (refl, e)
split_digits [] (y ∷ ys) [] v p q s t e = cc
split_digits [] (y ∷ ys) (x ∷ u) v p q s t e = let h : x ≡ y = cc in absurd (omega (arith, q.0))
split_digits (x ∷ xs) [] u [] p q s t e = cc
split_digits (x ∷ xs) [] u (y ∷ v) p q s t e = let h : x ≡ y = cc in absurd (omega (arith, p.0))
split_digits (x ∷ xs) (y ∷ ys) u v p q s t e =
    let tail : xs ++ u ≡ ys ++ v = cc in
    let k = split_digits xs ys u v p.1 q.1 s t tail in
    let f = k.0 in
    (cc, k.1)

stops_numbers : (ns u : List ℕ) → Stops (numbers_text ns ++ (10 ∷ u))
stops_numbers [] u = omega arith
stops_numbers (n ∷ ns) u = omega arith

-- numbers that each follow a space can be read off a line
numbers_same : (ns ms u v : List ℕ) → AllByRecursion (λ n. n ≤ 65535) ns → AllByRecursion (λ n. n ≤ 65535) ms → numbers_text ns ++ (10 ∷ u) ≡ numbers_text ms ++ (10 ∷ v) → (ns ≡ ms) × (u ≡ v)
numbers_same [] [] u v p q e = (refl, cc)
numbers_same [] (m ∷ ms) u v p q e = let z : ◌≡◌ {A = ℕ} 10 32 = cc in absurd (omega arith)
numbers_same (n ∷ ns) [] u v p q e = let z : ◌≡◌ {A = ℕ} 32 10 = cc in absurd (omega arith)
numbers_same (n ∷ ns) (m ∷ ms) u v p q e =
    let flat : (decimal n ++ numbers_text ns) ++ (10 ∷ u) ≡ (decimal m ++ numbers_text ms) ++ (10 ∷ v) = cc in
    let flat' = sym (append_assoc (decimal n) (numbers_text ns) (10 ∷ u)) ∙ flat ∙ append_assoc (decimal m) (numbers_text ms) (10 ∷ v) in
    let one = split_digits (decimal n) (decimal m) _ _ (from_zero n (omega (arith, p.0))) (from_zero m (omega (arith, q.0))) (stops_numbers ns u) (stops_numbers ms v) flat' in
    let same = decimal_injective n m (omega (arith, p.0)) (omega (arith, q.0)) one.0 in
    let rest = numbers_same ns ms u v p.1 q.1 one.1 in
    ((λ i. same i ∷ rest.0 i), rest.1)

-- the record with a mark and numbers
record_of : ℕ → ℕ → List ℕ → Option Record
record_of a b [] = None
record_of a b (l ∷ []) = cond (eqb a 72) (Some (Horizon l)) (Some (Places l))
record_of a b (l ∷ (m ∷ [])) = cond (eqb a 84) (Some (Tariff l m)) (Some (Cart l m))
record_of a b (l ∷ (m ∷ (n ∷ []))) =
    let r : LaneRow = record { from = l; to = m; line = n } in cond (eqb b 78) (Some (Lane r)) (Some (BothLanes r))
record_of a b (l ∷ (m ∷ (n ∷ (o ∷ os)))) = None

record_of_parts : (r : Record) → record_of (mark_first r) (mark_second r) (numbers r) ≡ Some r
unfolding record_of
record_of_parts (Horizon h) = refl
record_of_parts (Places p) = refl
record_of_parts (Lane l) = refl
record_of_parts (BothLanes l) = refl
record_of_parts (Tariff t w) = refl
record_of_parts (Cart s g) = refl

same_parts : (r s : Record) → mark_first r ≡ mark_first s → mark_second r ≡ mark_second s → numbers r ≡ numbers s → r ≡ s
same_parts r s a b ns =
    let p = record_of_parts r in
    let q = record_of_parts s in
    let same : record_of (mark_first r) (mark_second r) (numbers r) ≡ record_of (mark_first s) (mark_second s) (numbers s) = λ i. record_of (a i) (b i) (ns i) in
    let e : Some r ≡ Some s = cc in
    cc

-- a record can be read off the front of any bytes
pub record_same : (r s : Record) (u v : List ℕ) → Fitting r → Fitting s → record_text r ++ u ≡ record_text s ++ v → (r ≡ s) × (u ≡ v)
record_same r s u v p q e =
    let a : mark_first r ≡ mark_first s = cc in
    let b : mark_second r ≡ mark_second s = cc in
    let body : (numbers_text (numbers r) ++ (10 ∷ [])) ++ u ≡ (numbers_text (numbers s) ++ (10 ∷ [])) ++ v = cc in
    let flat = sym (append_assoc (numbers_text (numbers r)) (10 ∷ []) u) ∙ body ∙ append_assoc (numbers_text (numbers s)) (10 ∷ []) v in
    let k = numbers_same (numbers r) (numbers s) u v p q flat in
    (same_parts r s a b k.0, k.1)

-- a text is that of one list of records at most
pub records_same : (rs ss : List Record) → AllByRecursion Fitting rs → AllByRecursion Fitting ss → records_text rs ≡ records_text ss → rs ≡ ss
records_same [] [] p q e = refl
records_same [] (s ∷ ss) p q e = cc
records_same (r ∷ rs) [] p q e = cc
records_same (r ∷ rs) (s ∷ ss) p q e =
    let one = record_same r s (records_text rs) (records_text ss) p.0 q.0 e in
    let more = records_same rs ss p.1 q.1 one.1 in
    λ i. one.0 i ∷ more i
