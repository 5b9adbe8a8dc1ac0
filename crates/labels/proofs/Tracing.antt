-- Following a label's parents back, place by place.
-- Assumes nothing.
use Rattle.std.proofs.Common.{◌≡◌, ℕ, zero, suc, ◌+◌, ◌-◌, ◌<◌, ◌≤◌, List, [], ◌∷◌, ◌++◌, map, reverse, length, get_or, take, drop, set, replicate, sym, refl, ap, ◌∙◌, inl, inr, arith}
use Rattle.std.proofs.lemmas.Bool.{cases_lt}
use Rattle.std.proofs.lemmas.List.{append-nil, append_assoc, take-append-drop, map-append, length-map, length-take-le, get_or_append_left, get_or_at, get_or_past, take_more, take_all, drop_more, drop-set, reverse-append, replicate_more, drop-replicate}
use Rattle.rules.specs.Offers.{Label}
use Rattle.labels.specs.declared.row.LabelRow.{LabelRow}
use Rattle.labels.specs.Rows.{trace_at, shown_row, shown_from, shown}
use Rattle.labels.proofs.Showing.{shown_push, length-shown}

module _ {C : Type 0} where
  from_grows : (ls : List (Label C)) (rs : List (LabelRow C)) → (more : List (Label C)) × (shown_from ls rs ≡ ls ++ more)
  from_grows ls [] = ([], sym (append-nil ls))
  from_grows ls (r ∷ rs) =
      let (more, e) = from_grows (ls ++ shown_row ls r ∷ []) rs in
      (shown_row ls r ∷ more, e ∙ append_assoc ls (shown_row ls r ∷ []) more)

  from_append : (ls : List (Label C)) (rs ss : List (LabelRow C)) → shown_from ls (rs ++ ss) ≡ shown_from (shown_from ls rs) ss
  from_append ls [] ss = refl
  from_append ls (r ∷ rs) ss = from_append (ls ++ shown_row ls r ∷ []) rs ss

  -- what the first rows show stays as it is
  shown_part : (rs : List (LabelRow C)) (n : ℕ) → (more : List (Label C)) × (shown rs ≡ shown (take n rs) ++ more)
  unfolding shown
  shown_part rs n =
      let (more, e) = from_grows (shown (take n rs)) (drop n rs) in
      (more, ap (shown_from []) (sym (take-append-drop n rs)) ∙ from_append [] (take n rs) (drop n rs) ∙ e)

  trace_part : (rs : List (LabelRow C)) (n r : ℕ) → r < n → n ≤ length rs → trace_at (shown rs) r ≡ trace_at (shown (take n rs)) r
  trace_part rs n r lt le =
      let (more, e) = shown_part rs n in
      let item : Label C → List ℕ = λ l. l.item in
      let ls = shown (take n rs) in
      let inside : r < length (map (λ (l : Label C). l.item) (shown (take n rs))) = omega (arith, length-map ls item, length-shown (take n rs), length-take-le n rs le) in
      ap (λ l. trace_at l r) e ∙ ap (λ l. get_or l r []) (map-append item ls more) ∙ get_or_append_left (map item ls) (map item more) [] r inside

  trace_row : (rs : List (LabelRow C)) (r : ℕ) (d : LabelRow C) → r < length rs → trace_at (shown rs) r ≡ (get_or rs r d).place ∷ trace_at (shown (take r rs)) (get_or rs r d).parent
  trace_row rs r d lt =
      let before = shown (take r rs) in
      let row = get_or rs r d in
      let item : Label C → List ℕ = λ l. l.item in
      let long : length (map (λ (l : Label C). l.item) (shown (take r rs))) ≡ r = length-map before item ∙ length-shown (take r rs) ∙ length-take-le r rs (omega arith) in
      trace_part rs (r + 1) r (omega arith) (omega arith)
      ∙ ap (λ l. trace_at (shown l) r) (take_more rs r d lt)
      ∙ ap (λ l. trace_at l r) (shown_push (take r rs) row)
      ∙ ap (λ l. get_or l r []) (map-append item before (shown_row before row ∷ []))
      ∙ get_or_at (map item before) (item (shown_row before row)) [] [] r long

  -- past the rows there is no trace
  trace_past : (rs : List (LabelRow C)) (n r : ℕ) → n ≤ r → n ≤ length rs → trace_at (shown (take n rs)) r ≡ []
  trace_past rs n r le within = get_or_past (map (λ (l : Label C). l.item) (shown (take n rs))) r [] (omega (arith, length-map (shown (take n rs)) (λ (l : Label C). l.item), length-shown (take n rs), length-take-le n rs within))

  trace_inside : (rs : List (LabelRow C)) (r p : ℕ) (tail : List ℕ) → trace_at (shown rs) r ≡ p ∷ tail → r < length rs
  trace_inside rs r p tail is = elim (cases_lt r (length rs)) [
    | inl lt ↦ lt
    | inr ge ↦
        let none : trace_at (shown rs) r ≡ [] = ap (λ l. trace_at (shown l) r) (sym (take_all (length rs) rs (omega arith))) ∙ trace_past rs (length rs) r ge (omega arith) in
        let z : ◌≡◌ {A = ℕ} 0 1 = cc (none, is) in absurd (omega arith)
  ]

  module _ (rs : List (LabelRow C)) (r p : ℕ) (tail : List ℕ) (d : LabelRow C) (is : trace_at (shown rs) r ≡ p ∷ tail) where
    parts : (get_or rs r d).place ∷ trace_at (shown (take r rs)) (get_or rs r d).parent ≡ p ∷ tail
    parts = sym (trace_row rs r d (trace_inside rs r p tail is)) ∙ is

    pub trace_place : (get_or rs r d).place ≡ p
    trace_place = cc parts

    pub trace_parent : 0 < length tail → trace_at (shown rs) (get_or rs r d).parent ≡ tail
    trace_parent some =
        let lt = trace_inside rs r p tail is in
        let rest : trace_at (shown (take r rs)) (get_or rs r d).parent ≡ tail = cc parts in
        elim (cases_lt (get_or rs r d).parent r) [
          | inl before ↦ trace_part rs r (get_or rs r d).parent before (omega arith) ∙ rest
          | inr past ↦ absurd (omega (arith, ap length (sym rest ∙ trace_past rs r (get_or rs r d).parent past (omega arith))))
        ]

-- writing a trace back to front: at tick left - 1 comes the next place
module _ (us : List ℕ) (left : ℕ) (some : 0 < left) (le : left ≤ length us) where
  pub next_place : drop (length us - left) us ≡ get_or us (length us - left) 0 ∷ drop (length us - (left - 1)) us
  next_place =
      let on : length us - left + 1 ≡ length us - (left - 1) = omega arith in
      drop_more us (length us - left) 0 (omega arith) ∙ ap (λ n. get_or us (length us - left) 0 ∷ drop n us) on

  pub row_inside : {C : Type 0} (rs : List (LabelRow C)) (r : ℕ) → trace_at (shown rs) r ≡ drop (length us - left) us → r < length rs
  row_inside rs r e = trace_inside rs r (get_or us (length us - left) 0) (drop (length us - (left - 1)) us) (e ∙ next_place)

  pub written_more : (places : List ℕ) (p : ℕ) → length places ≡ length us → p ≡ get_or us (length us - left) 0 → drop left places ≡ reverse (take (length us - left) us) → drop (left - 1) (set places (left - 1) p) ≡ reverse (take (length us - (left - 1)) us)
  written_more places p long is e =
      let i = length us - left in
      let on : length us - (left - 1) ≡ length us - left + 1 = omega arith in
      let back : left - 1 + 1 ≡ left = omega arith in
      drop-set places (left - 1) p (omega arith)
      ∙ ap (λ n. p ∷ drop n places) back
      ∙ ap (λ l. p ∷ l) e
      ∙ ap (λ q. q ∷ reverse (take i us)) is
      ∙ sym (ap (λ n. reverse (take n us)) on ∙ ap reverse (take_more us i 0 (omega arith)) ∙ reverse-append (take i us) (get_or us i 0 ∷ []))

-- the walk: what was moved, and then standing
reverse_same : (n g : ℕ) → reverse (replicate n g) ≡ replicate n g
reverse_same zero g = refl
reverse_same (suc n) g =
    let on : suc n ≡ n + 1 = omega arith in
    reverse-append (g ∷ []) (replicate n g) ∙ ap (λ l. l ++ g ∷ []) (reverse_same n g) ∙ replicate_more n g ∙ ap (λ m. replicate m g) (sym on)

pub walk_written : (us : List ℕ) (g s n : ℕ) → n ≡ s + length us → reverse us ++ drop (n - s) (replicate n g) ≡ reverse (replicate s g ++ us)
walk_written us g s n e =
    let left : n - (n - s) ≡ s = omega (arith, e) in
    ap (λ l. reverse us ++ l) (drop-replicate (n - s) n g ∙ ap (λ m. replicate m g) left ∙ sym (reverse_same s g)) ∙ sym (reverse-append (replicate s g) us)
