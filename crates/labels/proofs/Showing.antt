-- What rows show, one row more, and a part of them.
-- Assumes nothing.
use Rattle.std.proofs.Common.{◌≡◌, ℕ, suc, ◌+◌, ◌-◌, ◌<◌, ◌≤◌, Bool, cond, not, ◌&&◌, ◌||◌, List, [], ◌∷◌, ◌++◌, map, length, get_or, take, drop, Some, None, Option, sym, refl, ap, ◌∙◌, inl, inr, arith}
use Rattle.std.specs.Option.{option_map, option_or}
use Rattle.std.specs.List.{list_any, slice_get}
use Rattle.std.proofs.lemmas.Bool.{cases_Bool}
use Rattle.std.proofs.lemmas.Option.{slice_get-get_or}
use Rattle.std.proofs.lemmas.List.{append-nil, append_assoc, length_push, length-take-le, get_or-take, get_or-map, map_push, drop-map, at_drop_more}
use Rattle.rules.specs.Kinds.{Kind}
use Rattle.rules.specs.Fronts.{covered}
use Rattle.rules.specs.Offers.{Label}
use Rattle.labels.specs.declared.row.LabelRow.{LabelRow}
use Rattle.labels.specs.Picks.{leads, better, picked, last_cost}
use Rattle.labels.specs.Rows.{shown_row, shown_from, shown, shown_best, extended_by}

module _ {C : Type 0} where
  push_from : (ls : List (Label C)) (rs : List (LabelRow C)) (r : LabelRow C) → shown_from ls (rs ++ r ∷ []) ≡ shown_from ls rs ++ shown_row (shown_from ls rs) r ∷ []
  push_from ls [] r = refl
  push_from ls (x ∷ rs) r = push_from (ls ++ shown_row ls x ∷ []) rs r

  pub shown_push : (rs : List (LabelRow C)) (r : LabelRow C) → shown (rs ++ r ∷ []) ≡ shown rs ++ shown_row (shown rs) r ∷ []
  unfolding shown
  shown_push rs r = push_from [] rs r

  length_from : (ls : List (Label C)) (rs : List (LabelRow C)) → length (shown_from ls rs) ≡ length ls + length rs
  length_from ls [] = omega arith
  length_from ls (r ∷ rs) = omega (arith, length_from (ls ++ shown_row ls r ∷ []) rs, length_push ls (shown_row ls r))

  pub length-shown : (rs : List (LabelRow C)) → length (shown rs) ≡ length rs
  unfolding shown
  length-shown rs = omega (arith, length_from [] rs)

  abbrev cost_of : Label C → C
  cost_of l = l.cost

  costs_from : (ls : List (Label C)) (rs : List (LabelRow C)) → map (λ l. l.cost) (shown_from ls rs) ≡ map (λ l. l.cost) ls ++ map (λ r. r.cost) rs
  costs_from ls [] = sym (append-nil _)
  costs_from ls (r ∷ rs) =
      costs_from (ls ++ shown_row ls r ∷ []) rs
      ∙ ap (λ l. l ++ map (λ (x : LabelRow C). x.cost) rs) (map_push (λ l. l.cost) ls (shown_row ls r))
      ∙ append_assoc (map (λ l. l.cost) ls) (r.cost ∷ []) (map (λ (x : LabelRow C). x.cost) rs)

  pub costs_shown : (rs : List (LabelRow C)) → map (λ l. l.cost) (shown rs) ≡ map (λ r. r.cost) rs
  unfolding shown
  costs_shown rs = costs_from [] rs

  -- the cost of the label at i is the row's
  pub cost-here : (rs : List (LabelRow C)) (i : ℕ) (r : LabelRow C) (d : Label C) → i < length rs → (get_or (shown rs) i d).cost ≡ (get_or rs i r).cost
  cost-here rs i r d lt =
      let in_labels : i < length (shown rs) = omega (arith, length-shown rs) in
      sym (get_or-map (λ l. l.cost) (shown rs) i d r.cost in_labels) ∙ ap (λ l. get_or l i r.cost) (costs_shown rs) ∙ get_or-map (λ x. x.cost) rs i r r.cost lt

  pub cost-at : (rs : List (LabelRow C)) (n i : ℕ) (r : LabelRow C) (d : Label C) → i < n → n ≤ length rs → (get_or (shown (take n rs)) i d).cost ≡ (get_or rs i r).cost
  cost-at rs n i r d lt le = cost-here (take n rs) i r d (omega (arith, length-take-le n rs le)) ∙ ap (λ x. x.cost) (get_or-take n rs i r lt)

  option_or_none : (o : Option C) → option_or o None ≡ o
  option_or_none None = refl
  option_or_none (Some x) = refl

  -- the costs from i on are the rows'
  costs_from_on : (rs : List (LabelRow C)) (i : ℕ) → map (λ l. l.cost) (drop i (shown rs)) ≡ map (λ r. r.cost) (drop i rs)
  costs_from_on rs i = sym (drop-map (λ l. l.cost) i (shown rs)) ∙ ap (drop i) (costs_shown rs) ∙ drop-map (λ r. r.cost) i rs

  covered_costs : (k : Kind C) (ls : List (Label C)) (rs : List (LabelRow C)) (c : C) → map (λ l. l.cost) ls ≡ map (λ r. r.cost) rs → covered k ls c ≡ list_any (λ r. k.at_most r.cost c) rs
  covered_costs k [] [] c e = refl
  covered_costs k [] (r ∷ rs) c e = absurd (omega (arith, ap length e))
  covered_costs k (l ∷ ls) [] c e = absurd (omega (arith, ap length e))
  covered_costs k (l ∷ ls) (r ∷ rs) c e =
      let first : l.cost ≡ r.cost = cc e in
      let rest : map (λ (x : Label C). x.cost) ls ≡ map (λ (x : LabelRow C). x.cost) rs = cc e in
      ap (λ a. k.at_most a c || covered k ls c) first ∙ ap (λ b. k.at_most r.cost c || b) (covered_costs k ls rs c rest)

  -- the labels from i on cover what their rows do
  pub covered_shown : (k : Kind C) (rs : List (LabelRow C)) (i : ℕ) (c : C) → list_any (λ r. k.at_most r.cost c) (drop i rs) ≡ covered k (drop i (shown rs)) c
  covered_shown k rs i c = sym (covered_costs k (drop i (shown rs)) (drop i rs) c (costs_from_on rs i))

  last_of_more : (o p : Option C) (r s : LabelRow C) (rs : List (LabelRow C)) → option_or (option_map (λ r. r.cost) (slice_get (r ∷ s ∷ rs) (length (r ∷ s ∷ rs) - 1))) o ≡ option_or (option_map (λ r. r.cost) (slice_get (s ∷ rs) (length (s ∷ rs) - 1))) p
  last_of_more o p r s rs =
      let get = slice_get-get_or (s ∷ rs) (length rs) s (omega arith) in
      let here : length (r ∷ s ∷ rs) - 1 ≡ suc (length rs) = omega arith in
      let there : length (s ∷ rs) - 1 ≡ length rs = omega arith in
      let f : LabelRow C → C = λ x. x.cost in
      ap (λ n. option_or (option_map f (slice_get (r ∷ s ∷ rs) n)) o) here
      ∙ ap (λ x. option_or (option_map f x) o) get
      ∙ sym (ap (λ n. option_or (option_map f (slice_get (s ∷ rs) n)) p) there ∙ ap (λ x. option_or (option_map f x) p) get)

  last_costs : (k : Kind C) (o : Option C) (ls : List (Label C)) (rs : List (LabelRow C)) → map (λ l. l.cost) ls ≡ map (λ r. r.cost) rs → option_or (option_map (λ r. r.cost) (slice_get rs (length rs - 1))) o ≡ last_cost k o ls
  last_costs k o [] [] e = refl
  last_costs k o [] (r ∷ rs) e = absurd (omega (arith, ap length e))
  last_costs k o (l ∷ ls) [] e = absurd (omega (arith, ap length e))
  last_costs k o (l ∷ []) (r ∷ []) e = let first : r.cost ≡ l.cost = cc e in ap Some first
  last_costs k o (l ∷ []) (r ∷ s ∷ rs) e = absurd (omega (arith, ap length e))
  last_costs k o (l ∷ m ∷ ls) (r ∷ []) e = absurd (omega (arith, ap length e))
  last_costs k o (l ∷ m ∷ ls) (r ∷ s ∷ rs) e =
      let rest : map (λ (x : Label C). x.cost) (m ∷ ls) ≡ map (λ (x : LabelRow C). x.cost) (s ∷ rs) = cc e in
      last_of_more o (Some l.cost) r s rs ∙ last_costs k (Some l.cost) (m ∷ ls) (s ∷ rs) rest

  -- the cost of the last label from i on is the last row's
  pub last_shown : (k : Kind C) (rs : List (LabelRow C)) (i : ℕ) → option_map (λ r. r.cost) (slice_get (drop i rs) (length (drop i rs) - 1)) ≡ last_cost k None (drop i (shown rs))
  last_shown k rs i = sym (option_or_none (option_map (λ (r : LabelRow C). r.cost) (slice_get (drop i rs) (length (drop i rs) - 1)))) ∙ last_costs k None (drop i (shown rs)) (drop i rs) (costs_from_on rs i)

  extended-at : (k : Kind C) (rs : List (LabelRow C)) (to i : ℕ) (r : LabelRow C) (d : Label C) (price : C) (place : ℕ) → i < to → to ≤ length rs →
      ◌≡◌ {A = Label C} (record { cost = k.join (get_or (take to (shown rs)) i d).cost price; item = place ∷ (get_or (take to (shown rs)) i d).item }) (shown_row (shown rs) (record { cost = k.join (get_or rs i r).cost price; parent = i; place = place }))
  extended-at k rs to i r d price place lt le =
      let within : i < length (shown rs) = omega (arith, length-shown rs) in
      let here : i < length rs = omega arith in
      let same = get_or-take to (shown rs) i d lt in
      λ j. record { cost = k.join ((ap (λ l. l.cost) same ∙ cost-here rs i r d here) j) price; item = place ∷ (ap (λ l. l.item) same ∙ sym (get_or-map (λ l. l.item) (shown rs) i d [] within)) j }

  pub picked-at : (k : Kind C) (rs : List (LabelRow C)) (to i : ℕ) (r : LabelRow C) (price : C) (place : ℕ) (skip : C → Bool) (o : Option (Label C)) → i < to → to ≤ length rs →
      picked k skip o (extended_by k price place (drop i (take to (shown rs)))) ≡ picked k skip (better k skip o (shown_row (shown rs) (record { cost = k.join (get_or rs i r).cost price; parent = i; place = place }))) (extended_by k price place (drop (i + 1) (take to (shown rs))))
  picked-at k rs to i r price place skip o lt le =
      let d : Label C = record { cost = r.cost; item = [] } in
      let ls = shown rs in
      let part : length (take to (shown rs)) ≡ to = length-take-le to (shown rs) (omega (arith, length-shown rs)) in
      at_drop_more (λ l. picked k skip o (extended_by k price place l)) (take to ls) i d (omega arith)
      ∙ ap (λ x. picked k skip (better k skip o x) (extended_by k price place (drop (i + 1) (take to ls)))) (extended-at k rs to i r d price place lt le)

  -- looking at whether a cost leads first changes nothing
  pub better_by : (k : Kind C) (ls : List (Label C)) (skip : C → Bool) (o : Option (LabelRow C)) (r : LabelRow C) → better k skip (shown_best ls o) (shown_row ls r) ≡ shown_best ls (cond (leads k (option_map (λ (b : LabelRow C). b.cost) o) r.cost && not (skip r.cost)) (Some r) o)
  better_by k ls skip None r = elim (cases_Bool (skip r.cost)) [ inl e ↦ rw e | inr e ↦ rw e ]
  better_by k ls skip (Some b) r = elim (cases_Bool (skip r.cost)) [
    | inl e ↦ elim (cases_Bool (k.before r.cost b.cost)) [ inl f ↦ rw (e, f) | inr f ↦ rw (e, f) ]
    | inr e ↦ elim (cases_Bool (k.before r.cost b.cost)) [ inl f ↦ rw (e, f) | inr f ↦ rw (e, f) ]
  ]

  -- what the best becomes
  pub better_became : (k : Kind C) (ls : List (Label C)) (skip : C → Bool) (o b : Option (LabelRow C)) (c j : C) (n p : ℕ) (t : Bool) → c ≡ j → t ≡ (leads k (option_map (λ (b : LabelRow C). b.cost) o) c && not (skip c)) → b ≡ cond t (Some (record { cost = c; parent = n; place = p })) o → better k skip (shown_best ls o) (shown_row ls (record { cost = j; parent = n; place = p })) ≡ shown_best ls b
  better_became k ls skip o b c j n p t e h is =
      ap (λ z. better k skip (shown_best ls o) (shown_row ls (record { cost = z; parent = n; place = p }))) (sym e)
      ∙ better_by k ls skip o (record { cost = c; parent = n; place = p })
      ∙ ap (λ z. shown_best ls (cond z (Some (record { cost = c; parent = n; place = p })) o)) (sym h)
      ∙ ap (shown_best ls) (sym is)
