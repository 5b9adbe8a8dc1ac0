-- Picking one after another gives the front: what `front_of` keeps, and what is picked after the first of it.
-- Assumes nothing.
use Rattle.std.proofs.Common.{◌≡◌, ℕ, ◌+◌, ◌<◌, Bool, true, false, cond, not, ◌&&◌, ◌⊎◌, List, [], ◌∷◌, ◌++◌, length, get_or, take, drop, Some, None, Option, sym, refl, ap, ◌∙◌, subst, inl, inr, arith}
use Rattle.std.specs.List.{AllByRecursion, filter, slice_get}
use Rattle.std.specs.Option.{MatchOption}
use Rattle.std.proofs.lemmas.List.{append-nil, append_assoc, take-append-drop, drop_more, take_all}
use Rattle.std.proofs.lemmas.Option.{slice_get-get_or, slice_get_past}
use Rattle.std.proofs.lemmas.Bool.{cases_Bool, cases_lt, both_ways, or_parts, or_from, or_right, not-false, and_from}
use Rattle.std.proofs.ByRecursion.{All-push, All-weaker}
use Rattle.rules.specs.Kinds.{Kind, Laws, AtMost, Before}
use Rattle.rules.specs.Fronts.{Entry, covered, added, added_all, front_of}
use Rattle.rules.proofs.Members.{Any, any_weaker}
use Rattle.rules.proofs.Fronts.{Ranked, Covered, Uncovered, covered_true, covered_false, put, all_put, covered-put, ranked_front}
use Rattle.labels.specs.Picks.{sooner, better, picked, dominated, last_cost, comes_after, passed_over, out_of_turn}

module _ {C : Type 0} (k : Kind C) (laws : Laws k) where
  not_back : (a b : C) → Before k a b → k.before b a ≡ false
  not_back a b h = elim (cases_Bool (k.before b a)) [
    | inl e ↦ absurd (laws.before_irrefl a (laws.before_trans a b a h e))
    | inr e ↦ e
  ]

  not_self : (a : C) → k.before a a ≡ false
  not_self a = elim (cases_Bool (k.before a a)) [
    | inl e ↦ absurd (laws.before_irrefl a e)
    | inr e ↦ e
  ]

  at_most_cases : (a b : C) → AtMost k a b → (b ≡ a) ⊎ Before k a b
  at_most_cases a b h = elim (laws.before_total a b) [
    | inl e ↦ inl (sym e)
    | inr (inl e) ↦ inr e
    | inr (inr e) ↦ inr (laws.at_most_before a b (h, λ s. laws.before_irrefl b (subst (λ x. Before k b x) s e)))
  ]

  -- what comes after a cost that comes after the last one does so too
  comes_later : (last : Option C) (b c : C) → comes_after k last b ≡ true → Before k b c → comes_after k last c ≡ true
  comes_later None b c h l = refl
  comes_later (Some a) b c h l = laws.before_trans a b c h l

module _ {C B : Type 0} (k : Kind C) where
  pub last_push : (o : Option C) (es : List (Entry C B)) (b : Entry C B) → last_cost k o (es ++ b ∷ []) ≡ Some b.cost
  last_push o [] b = refl
  last_push o (e ∷ es) b = last_push (Some e.cost) es b

  -- f is the first entry of its cost
  abbrev pub FirstIn : List (Entry C B) → Entry C B → Type 0
  FirstIn [] f = ⊥
  FirstIn (x ∷ xs) f = (x ≡ f) ⊎ ((x.cost ≡ f.cost → ⊥) × FirstIn xs f)

  -- each of ys is covered by es, and each of es is the first of its cost in ys
  pub record Kept (ys es : List (Entry C B)) : Type 0 where
    pub covers : AllByRecursion (λ y. Covered k es y.cost) ys
    pub first : AllByRecursion (FirstIn ys) es

  not_covered : (es : List (Entry C B)) (c : C) → Covered k es c → Uncovered k es c → ⊥
  not_covered [] c h u = h
  not_covered (e ∷ es) c (inl h) u = both_ways (k.at_most e.cost c) u.0 h
  not_covered (e ∷ es) c (inr h) u = not_covered es c h u.1

  covers_true : (es : List (Entry C B)) (c : C) → Covered k es c → covered k es c ≡ true
  covers_true es c h = elim (cases_Bool (covered k es c)) [
    | inl e ↦ e
    | inr e ↦ absurd (not_covered es c h (covered_false k es c e))
  ]

  first_more : (ys : List (Entry C B)) (x e : Entry C B) → FirstIn ys e → FirstIn (ys ++ x ∷ []) e
  first_more [] x e h = absurd h
  first_more (y ∷ ys) x e (inl s) = inl s
  first_more (y ∷ ys) x e (inr p) = inr (p.0, first_more ys x e p.1)

  first_last : (ys : List (Entry C B)) (x : Entry C B) → AllByRecursion (λ y. y.cost ≡ x.cost → ⊥) ys → FirstIn (ys ++ x ∷ []) x
  first_last [] x h = inl refl
  first_last (y ∷ ys) x h = inr (h.0, first_last ys x h.1)

  module _ (laws : Laws k) where
    kept_more : (ys es : List (Entry C B)) (x : Entry C B) → Kept ys es → Kept (ys ++ x ∷ []) (added k es x)
    kept_more ys es x h =
        let more = All-weaker (FirstIn ys) (FirstIn (ys ++ x ∷ [])) (first_more ys x) es h.first in
        elim (cases_Bool (covered k es x.cost)) [
          | inl b ↦ rw b (record { covers = All-push (λ y. Covered k es y.cost) ys x h.covers (covered_true k es x.cost b); first = more })
          | inr b ↦
              let other = λ (y : Entry C B) (c : Covered k es y.cost) (s : y.cost ≡ x.cost). not_covered es x.cost (subst (Covered k es) s c) (covered_false k es x.cost b) in
              rw b (record {
                covers = All-push (λ y. Covered k (put k es x) y.cost) ys x
                    (All-weaker (λ y. Covered k es y.cost) (λ y. Covered k (put k es x) y.cost) (λ y c. covered-put k laws es x y.cost (inr c)) ys h.covers)
                    (covered-put k laws es x x.cost (inl (laws.at_most_refl x.cost)));
                first = all_put k (FirstIn (ys ++ x ∷ [])) es x more
                    (first_last ys x (All-weaker (λ y. Covered k es y.cost) (λ y. y.cost ≡ x.cost → ⊥) other ys h.covers));
              })
        ]

    kept_all : (xs ys es : List (Entry C B)) → Kept ys es → Kept (ys ++ xs) (added_all k es xs)
    kept_all [] ys es h = subst (λ l. Kept l es) (sym (append-nil ys)) h
    kept_all (x ∷ xs) ys es h = subst (λ l. Kept l (added_all k (added k es x) xs)) (append_assoc ys (x ∷ []) xs) (kept_all xs (ys ++ x ∷ []) (added k es x) (kept_more ys es x h))

    pub front_kept : (xs : List (Entry C B)) → Kept xs (front_of k xs)
    front_kept xs = kept_all xs [] [] (record { covers = tt; first = tt })

module _ {C B : Type 0} (k : Kind C) (laws : Laws k) (skip : C → Bool) where
  -- x is skipped, or does not come before f
  abbrev Late : Entry C B → Entry C B → Type 0
  Late f x = (skip x.cost ≡ true) ⊎ ((x.cost ≡ f.cost) ⊎ Before k f.cost x.cost)

  picked_stays : (f : Entry C B) (xs : List (Entry C B)) → AllByRecursion (Late f) xs → picked k skip (Some f) xs ≡ Some f
  picked_stays f [] h = refl
  picked_stays f (x ∷ xs) h =
      let stays : better k skip (Some f) x ≡ Some f = elim (cases_Bool (skip x.cost)) [
        | inl c ↦ rw c
        | inr c ↦ rw c (elim h.0 [
          | inl d ↦ absurd (both_ways (skip x.cost) c d)
          | inr (inl s) ↦ rw s (rw (not_self k laws f.cost))
          | inr (inr s) ↦ rw (not_back k laws f.cost x.cost s)
        ])
      ] in
      ap (λ o. picked k skip o xs) stays ∙ picked_stays f xs h.1

  abbrev After : Entry C B → Option (Entry C B) → Type 0
  After f None = Unit {0}
  After f (Some b) = Before k f.cost b.cost

  comes : (f : Entry C B) (o : Option (Entry C B)) → After f o → sooner k o f ≡ Some f
  comes f None h = refl
  comes f (Some b) h = rw h

  waits : (f x : Entry C B) (o : Option (Entry C B)) → After f o → Before k f.cost x.cost → After f (sooner k o x)
  waits f x None h l = l
  waits f x (Some b) h l = elim (cases_Bool (k.before x.cost b.cost)) [
    | inl e ↦ rw e l
    | inr e ↦ rw e h
  ]

  picked_is : (f : Entry C B) (o : Option (Entry C B)) (xs : List (Entry C B)) → skip f.cost ≡ false → After f o → FirstIn k xs f → AllByRecursion (Late f) xs → picked k skip o xs ≡ Some f
  picked_is f o [] free a fi h = absurd fi
  picked_is f o (x ∷ xs) free a (inl s) h =
      let here : better k skip o x ≡ Some f = ap (better k skip o) s ∙ (rw free (comes f o a)) in
      ap (λ p. picked k skip p xs) here ∙ picked_stays f xs h.1
  picked_is f o (x ∷ xs) free a (inr p) h = elim (cases_Bool (skip x.cost)) [
    | inl c ↦ rw c (picked_is f o xs free a p.1 h.1)
    | inr c ↦ rw c (picked_is f (sooner k o x) xs free (waits f x o a (elim h.0 [
      | inl d ↦ absurd (both_ways (skip x.cost) c d)
      | inr (inl s) ↦ absurd (p.0 s)
      | inr (inr s) ↦ s
    ])) p.1 h.1)
  ]

  picked_none : (xs : List (Entry C B)) → AllByRecursion (λ x. skip x.cost ≡ true) xs → picked k skip None xs ≡ None
  picked_none [] h = refl
  picked_none (x ∷ xs) h = rw h.0 (picked_none xs h.1)

module _ {C B : Type 0} (k : Kind C) (laws : Laws k) where
  -- what some of the rest of a front covers stands after its first
  late_rest : (f : Entry C B) (rs : List (Entry C B)) (c : C) → AllByRecursion (λ r. Before k f.cost r.cost × (k.at_most f.cost r.cost ≡ false)) rs → Covered k rs c → Before k f.cost c
  late_rest f [] c h cov = absurd cov
  late_rest f (r ∷ rs) c h (inl m) = elim (at_most_cases k laws r.cost c m) [
    | inl s ↦ subst (λ z. Before k f.cost z) (sym s) h.0.0
    | inr b ↦ laws.before_trans f.cost r.cost c h.0.0 b
  ]
  late_rest f (r ∷ rs) c h (inr m) = late_rest f rs c h.1 m

  any_parts : (P : Entry C B → Type 0) (es rs : List (Entry C B)) → Any P (es ++ rs) → Any P es ⊎ Any P rs
  any_parts P [] rs h = inr h
  any_parts P (e ∷ es) rs (inl p) = inl (inl p)
  any_parts P (e ∷ es) rs (inr h) = elim (any_parts P es rs h) [ inl q ↦ inl (inr q) | inr q ↦ inr q ]

  ranked_back : (es rs : List (Entry C B)) → Ranked k (es ++ rs) → Ranked k rs
  ranked_back [] rs h = h
  ranked_back (e ∷ es) rs h = ranked_back es rs h.1

  all_back : (P : Entry C B → Type 0) (es rs : List (Entry C B)) → AllByRecursion P (es ++ rs) → AllByRecursion P rs
  all_back P [] rs h = h
  all_back P (e ∷ es) rs h = all_back P es rs h.1

  ranked_free : (es : List (Entry C B)) (f : Entry C B) (rs : List (Entry C B)) → Ranked k (es ++ f ∷ rs) → covered k es f.cost ≡ false
  ranked_free [] f rs h = refl
  ranked_free (e ∷ es) f rs h = or_from _ _ (all_back _ es (f ∷ rs) h.0).0.1 (ranked_free es f rs h.1)

  -- the last of some of a front comes before the next
  last_before : (o : Option C) (es : List (Entry C B)) (f : Entry C B) (rs : List (Entry C B)) → comes_after k o f.cost ≡ true → Ranked k (es ++ f ∷ rs) → comes_after k (last_cost k o es) f.cost ≡ true
  last_before o [] f rs h r = h
  last_before o (e ∷ es) f rs h r = last_before (Some e.cost) es f rs (all_back _ es (f ∷ rs) r.0).0.0 r.1

  -- what comes after a cost is none of what does not
  not_before : (last : Option C) (es : List (Entry C B)) (c : C) → AllByRecursion (λ e. comes_after k last e.cost ≡ false) es → comes_after k last c ≡ true → Any (λ e. e.cost ≡ c) es → ⊥
  not_before last [] c h y m = m
  not_before last (e ∷ es) c h y (inl s) = both_ways _ h.0 (subst (λ z. comes_after k last z ≡ true) (sym s) y)
  not_before last (e ∷ es) c h y (inr m) = not_before last es c h.1 y m

  -- a cost that nothing dominates, and that some entry is at most, is that entry's
  not_dominator : (xs : List (Entry C B)) (e : Entry C B) (c : C) → FirstIn k xs e → dominated k xs c ≡ false → AtMost k e.cost c → e.cost ≡ c
  not_dominator [] e c fi h le = absurd fi
  not_dominator (x ∷ xs) e c (inl s) h le =
      let no = subst (λ z. (k.at_most z.cost c && k.before z.cost c) ≡ false) s (or_parts _ _ h).0 in
      elim (at_most_cases k laws e.cost c le) [
        | inl same ↦ sym same
        | inr b ↦ absurd (both_ways _ no (and_from _ _ le b))
      ]
  not_dominator (x ∷ xs) e c (inr p) h le = not_dominator xs e c p.1 (or_parts _ _ h).1 le

  due_equal : (xs es : List (Entry C B)) (c : C) → AllByRecursion (FirstIn k xs) es → dominated k xs c ≡ false → Covered k es c → Any (λ e. e.cost ≡ c) es
  due_equal xs [] c fi h cov = cov
  due_equal xs (e ∷ es) c fi h (inl le) = inl (not_dominator xs e c fi.0 h le)
  due_equal xs (e ∷ es) c fi h (inr m) = inr (due_equal xs es c fi.1 h m)

  after_rest : (f : Entry C B) (rs : List (Entry C B)) (c : C) → AllByRecursion (λ r. Before k f.cost r.cost × (k.at_most f.cost r.cost ≡ false)) rs → Any (λ r. r.cost ≡ c) rs → Before k f.cost c
  after_rest f [] c h m = absurd m
  after_rest f (r ∷ rs) c h (inl e) = subst (λ z. Before k f.cost z) e h.0.0
  after_rest f (r ∷ rs) c h (inr m) = after_rest f rs c h.1 m

  module _ (xs es : List (Entry C B)) (f : Entry C B) (rs : List (Entry C B)) (is : front_of k xs ≡ es ++ f ∷ rs) where
    whole : Kept k xs (es ++ f ∷ rs)
    whole = subst (Kept k xs) is (front_kept k laws xs)

    ranked : Ranked k (es ++ f ∷ rs)
    ranked = subst (Ranked k) is (ranked_front k laws xs)

    first_next : FirstIn k xs f
    first_next = (all_back (FirstIn k xs) es (f ∷ rs) whole.first).0

    in_turn : comes_after k (last_cost k None es) f.cost ≡ true
    in_turn = last_before None es f rs refl ranked

    -- after some of a front, the next is picked among those that come after the last of them and that they do not cover
    picks_uncovered : picked k (passed_over k (last_cost k None es) es) None xs ≡ Some f
    picks_uncovered =
        let free : passed_over k (last_cost k None es) es f.cost ≡ false = rw (in_turn, ranked_free es f rs ranked) in
        picked_is k laws (passed_over k (last_cost k None es) es) f None xs free tt first_next
        (All-weaker (λ x. Covered k (es ++ f ∷ rs) x.cost) (Late k laws (passed_over k (last_cost k None es) es) f) (λ x c. elim (any_parts _ es (f ∷ rs) c) [
          | inl m ↦ inl (or_right _ _ (covers_true k es x.cost m))
          | inr (inl m) ↦ inr (at_most_cases k laws f.cost x.cost m)
          | inr (inr m) ↦ inr (inr (late_rest f rs x.cost (ranked_back es (f ∷ rs) ranked).0 m))
        ]) xs whole.covers)

    -- what the front covers and is at most f, f is at most
    reaches_next : (c : C) → Covered k (es ++ f ∷ rs) c → AtMost k c f.cost → AtMost k f.cost c
    reaches_next c cov le = elim (any_parts _ es (f ∷ rs) cov) [
      | inl m ↦ absurd (not_covered k es f.cost (any_weaker _ _ (λ e l. laws.at_most_trans e.cost c f.cost l le) es m) (covered_false k es f.cost (ranked_free es f rs ranked)))
      | inr (inl m) ↦ m
      | inr (inr m) ↦
          let later = late_rest f rs c (ranked_back es (f ∷ rs) ranked).0 m in
          absurd (elim (at_most_cases k laws c f.cost le) [
            | inl e ↦ laws.before_irrefl c (subst (λ z. Before k z c) e later)
            | inr b ↦ laws.before_irrefl c (laws.before_trans c f.cost c b later)
          ])
    ]

    next_undominated : (ys : List (Entry C B)) → AllByRecursion (λ y. Covered k (es ++ f ∷ rs) y.cost) ys → dominated k ys f.cost ≡ false
    next_undominated [] h = refl
    next_undominated (y ∷ ys) h =
        or_from _ _ (elim (cases_Bool (k.at_most y.cost f.cost)) [
          | inl le ↦ elim (cases_Bool (k.before y.cost f.cost)) [
            | inl b ↦ absurd (laws.before_irrefl f.cost (subst (λ z. Before k z f.cost) (laws.at_most_antisym y.cost f.cost le (reaches_next y.cost h.0 le)) b))
            | inr b ↦ rw (le, b)
          ]
          | inr no_le ↦ rw no_le
        ]) (next_undominated ys h.1)

    -- what comes after a cost begins with the first in order of what comes after it and nothing dominates
    picks_in_turn : (last : Option C) → AllByRecursion (λ e. comes_after k last e.cost ≡ false) es → comes_after k last f.cost ≡ true → picked k (out_of_turn k last xs) None xs ≡ Some f
    picks_in_turn last before after =
        let free : out_of_turn k last xs f.cost ≡ false = rw (after, next_undominated xs whole.covers) in
        picked_is k laws (out_of_turn k last xs) f None xs free tt first_next
        (All-weaker (λ x. Covered k (es ++ f ∷ rs) x.cost) (Late k laws (out_of_turn k last xs) f) (λ x c. elim (cases_Bool (out_of_turn k last xs x.cost)) [
          | inl skipped ↦ inl skipped
          | inr due ↦ inr (due_late x (or_parts _ _ due) c)
        ]) xs whole.covers)
      where
        due_late : (x : Entry C B) → (not (comes_after k last x.cost) ≡ false) × (dominated k xs x.cost ≡ false) → Covered k (es ++ f ∷ rs) x.cost → (x.cost ≡ f.cost) ⊎ Before k f.cost x.cost
        due_late x due c = elim (any_parts _ es (f ∷ rs) (due_equal xs (es ++ f ∷ rs) x.cost whole.first due.1 c)) [
          | inl m ↦ absurd (not_before last es x.cost before (not-false _ due.0) m)
          | inr (inl e) ↦ inl (sym e)
          | inr (inr m) ↦ inr (after_rest f rs x.cost (ranked_back es (f ∷ rs) ranked).0 m)
        ]

  all_out : (last : Option C) (xs : List (Entry C B)) → AllByRecursion (λ e. comes_after k last e.cost ≡ false) (front_of k xs) → (ys : List (Entry C B)) → AllByRecursion (λ y. Covered k (front_of k xs) y.cost) ys → AllByRecursion (λ y. out_of_turn k last xs y.cost ≡ true) ys
  all_out last xs before [] h = tt
  all_out last xs before (y ∷ ys) h = (
    elim (cases_Bool (out_of_turn k last xs y.cost)) [
      | inl e ↦ e
      | inr due ↦
          let parts = or_parts _ _ due in
          absurd (not_before last (front_of k xs) y.cost before (not-false _ parts.0) (due_equal xs (front_of k xs) y.cost (front_kept k laws xs).first parts.1 h.0))
    ],
    all_out last xs before ys h.1,
  )

  module _ (xs : List (Entry C B)) (j : ℕ) where
    front_split : (d : Entry C B) → j < length (front_of k xs) → front_of k xs ≡ take j (front_of k xs) ++ get_or (front_of k xs) j d ∷ drop (j + 1) (front_of k xs)
    front_split d lt = sym (take-append-drop j (front_of k xs)) ∙ ap (λ l. take j (front_of k xs) ++ l) (drop_more (front_of k xs) j d lt)

    -- what is picked once the first j of the front are there is the next of it
    pub picks_next : Entry C B → picked k (passed_over k (last_cost k None (take j (front_of k xs))) (take j (front_of k xs))) None xs ≡ slice_get (front_of k xs) j
    picks_next d = elim (cases_lt j (length (front_of k xs))) [
      | inl lt ↦ picks_uncovered xs (take j (front_of k xs)) (get_or (front_of k xs) j d) (drop (j + 1) (front_of k xs)) (front_split d lt) ∙ sym (slice_get-get_or (front_of k xs) j d lt)
      | inr ge ↦
          picked_none k laws (passed_over k (last_cost k None (take j (front_of k xs))) (take j (front_of k xs))) xs
          (rw (take_all j (front_of k xs) ge) (All-weaker (λ x. Covered k (front_of k xs) x.cost) (λ x. passed_over k (last_cost k None (front_of k xs)) (front_of k xs) x.cost ≡ true) (λ x c. or_right _ _ (covers_true k (front_of k xs) x.cost c)) xs (front_kept k laws xs).covers))
          ∙ sym (slice_get_past (front_of k xs) j ge)
    ]

  -- f may follow e in a front
  abbrev Ahead : Entry C B → Entry C B → Type 0
  Ahead e f = Before k e.cost f.cost × (k.at_most e.cost f.cost ≡ false)

  -- of a front, what comes after a cost stands behind the rest
  module _ (last : Option C) where
    abbrev after : List (Entry C B) → List (Entry C B)
    after es = filter (λ e. comes_after k last e.cost) es

    all_after : (es : List (Entry C B)) → AllByRecursion (λ e. comes_after k last e.cost ≡ true) es → after es ≡ es
    all_after [] h = refl
    all_after (e ∷ es) h = rw h.0 (ap (λ l. e ∷ l) (all_after es h.1))

    split : (fs : List (Entry C B)) → Ranked k fs → (es : List (Entry C B)) × AllByRecursion (λ e. comes_after k last e.cost ≡ false) es × (fs ≡ es ++ after fs)
    split [] r = ([], tt, refl)
    split (f ∷ fs) r = elim (cases_Bool (comes_after k last f.cost)) [
      | inl y ↦ ([], tt, rw y (ap (λ l. f ∷ l) (sym (all_after fs (All-weaker (Ahead f) (λ e. comes_after k last e.cost ≡ true) (λ e l. comes_later k laws last f.cost e.cost y l.0) fs r.0)))))
      | inr n ↦ let (es, h, e) = split fs r.1 in (f ∷ es, (n, h), rw n (ap (λ l. f ∷ l) e))
    ]

    none_after : (fs : List (Entry C B)) → after fs ≡ [] → AllByRecursion (λ e. comes_after k last e.cost ≡ false) fs
    none_after [] h = tt
    none_after (f ∷ fs) h = elim (cases_Bool (comes_after k last f.cost)) [
      | inl y ↦ let z : ◌≡◌ {A = ℕ} 0 1 = cc (ap (λ b. cond b (f ∷ after fs) (after fs)) (sym y) ∙ h) in absurd (omega arith)
      | inr n ↦ (n, none_after fs (ap (λ b. cond b (f ∷ after fs) (after fs)) (sym n) ∙ h))
    ]

    first_after : (fs rs : List (Entry C B)) (f : Entry C B) → after fs ≡ f ∷ rs → comes_after k last f.cost ≡ true
    first_after [] rs f h = let z : ◌≡◌ {A = ℕ} 0 1 = cc h in absurd (omega arith)
    first_after (e ∷ es) rs f h = elim (cases_Bool (comes_after k last e.cost)) [
      | inl y ↦ let same : e ≡ f = cc (ap (λ b. cond b (e ∷ after es) (after es)) (sym y) ∙ h) in subst (λ x. comes_after k last x.cost ≡ true) same y
      | inr n ↦ first_after es rs f (ap (λ b. cond b (e ∷ after es) (after es)) (sym n) ∙ h)
    ]

  -- after a member of a front comes the rest of it
  after_member : (es : List (Entry C B)) (f : Entry C B) (rs : List (Entry C B)) → Ranked k (es ++ f ∷ rs) → after (Some f.cost) (es ++ f ∷ rs) ≡ rs
  after_member [] f rs r = rw (not_self k laws f.cost) (all_after (Some f.cost) rs (All-weaker (Ahead f) (λ e. k.before f.cost e.cost ≡ true) (λ e l. l.0) rs r.0))
  after_member (e ∷ es) f rs r = rw (not_back k laws e.cost f.cost (all_back (Ahead e) es (f ∷ rs) r.0).0.0) (after_member es f rs r.1)

  -- what is picked among what comes after a cost and nothing dominates is the next of the front, if there is any
  module _ (last : Option C) (xs : List (Entry C B)) where
    next_after : (ls : List (Entry C B)) (r : Option (Entry C B)) → after last (front_of k xs) ≡ ls → r ≡ picked k (out_of_turn k last xs) None xs → MatchOption r (after last (front_of k xs) ≡ []) (λ f. after last (front_of k xs) ≡ f ∷ after (Some f.cost) (front_of k xs))
    next_after [] None e h = e
    next_after [] (Some f) e h =
        let z : ◌≡◌ {A = ℕ} 0 1 = cc (h ∙ picked_none k laws (out_of_turn k last xs) xs (all_out last xs (none_after last (front_of k xs) e) xs (front_kept k laws xs).covers)) in absurd (omega arith)
    next_after (f ∷ rs) r e h =
        let (es, before, is) = split last (front_of k xs) (ranked_front k laws xs) in
        let parts : front_of k xs ≡ es ++ f ∷ rs = is ∙ ap (λ l. es ++ l) e in
        let here : r ≡ Some f = h ∙ picks_in_turn xs es f rs parts last before (first_after last (front_of k xs) rs f e) in
        let rest : after (Some f.cost) (front_of k xs) ≡ rs = ap (after (Some f.cost)) parts ∙ after_member es f rs (subst (Ranked k) parts (ranked_front k laws xs)) in
        subst (λ o. MatchOption o (after last (front_of k xs) ≡ []) (λ g. after last (front_of k xs) ≡ g ∷ after (Some g.cost) (front_of k xs))) (sym here) (e ∙ ap (λ l. f ∷ l) (sym rest))

    pub picks_after : (r : Option (Entry C B)) → r ≡ picked k (out_of_turn k last xs) None xs → MatchOption r (filter (λ e. comes_after k last e.cost) (front_of k xs) ≡ []) (λ f. filter (λ e. comes_after k last e.cost) (front_of k xs) ≡ f ∷ filter (λ e. comes_after k (Some f.cost) e.cost) (front_of k xs))
    picks_after r h = next_after (after last (front_of k xs)) r refl h
