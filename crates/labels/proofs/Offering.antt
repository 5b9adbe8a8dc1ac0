-- Choosing offers among the labels that arrive.
-- Assumes nothing.
use denote.Ref.{Bor}
use Rattle.std.proofs.Common.{◌≡◌, ℕ, zero, suc, ◌+◌, ◌-◌, ◌*◌, ◌<◌, ◌≤◌, Bool, true, cond, not, ◌&&◌, ◌||◌, List, [], ◌∷◌, ◌++◌, map, length, get_or, take, drop, replicate, Some, None, Option, sym, refl, ap, ◌∙◌, inl, inr, mul-le-mul_right, suc-mul, arith}
use Rattle.std.specs.Iterator.{SkipsThenYields, YieldsFirstBy}
use Rattle.std.specs.List.{filter, list_any, range_with_len, slice_get}
use Rattle.std.proofs.lemmas.Iterator.Consumers.{nth_from_yields_List, YieldsList-from_first}
use Rattle.std.proofs.lemmas.Bool.{cases_Bool}
use Rattle.std.proofs.lemmas.List.{length-append, length-map, length-drop, length-take, get_or-take, get_or-drop, get_or-map, at_drop_more, at_drop_all, take-map, drop-map}
use Rattle.std.proofs.lemmas.List.Folds.{list_any-append}
use Rattle.std.proofs.lemmas.List.Sums.{length-filter, count_by-le-length}
use Rattle.rules.specs.Kinds.{Kind, Laws}
use Rattle.rules.specs.Fronts.{front_of}
use Rattle.rules.specs.Offers.{Label, joined_lists}
use Rattle.rules.proofs.Fronts.{front_short}
use Rattle.std.specs.Option.{option_map}
use Rattle.labels.specs.declared.arrivals.Arrivals.{Arrivals}
use Rattle.labels.specs.declared.landing.Landing.{Landing}
use Rattle.labels.specs.declared.offer.Offer.{Offer}
use Rattle.labels.specs.declared.offers.Offers.{Offers}
use Rattle.labels.specs.declared.row.LabelRow.{LabelRow}
use Rattle.labels.specs.Choices.{arrived, shown_offer, shown_lead, Chooses, offers_left}
use Rattle.labels.specs.Landings.{cell_of, run_of, standing, landed_from}
use Rattle.labels.specs.Picks.{leads, undercuts, better, picked, dominated}
use Rattle.labels.specs.Rows.{shown, trace_at}
use Rattle.labels.proofs.Moving.{picked-append}
use Rattle.labels.proofs.Picking.{picks_after}
use Rattle.labels.proofs.Showing.{length-shown, costs_shown}

abbrev label_costs : {C : Type 0} → List (Label C) → List C
label_costs ls = map (λ l. l.cost) ls

any_map : {X Y : Type 0} (p : Y → Bool) (f : X → Y) (xs : List X) → list_any (λ x. p (f x)) xs ≡ list_any p (map f xs)
any_map p f [] = refl
any_map p f (x ∷ xs) = ap (λ b. p (f x) || b) (any_map p f xs)

module _ {C : Type 0} where
  standing_costs : (n g : ℕ) (ls : List (Label C)) → label_costs (standing n g ls) ≡ label_costs ls
  standing_costs n g [] = refl
  standing_costs n g (l ∷ ls) = ap (λ cs. l.cost ∷ cs) (standing_costs n g ls)

  -- the costs of a run of labels are those of its rows
  pub run_costs : (rows : List (LabelRow C)) (starts : List ℕ) (l : Landing) (t : ℕ) → label_costs (run_of starts l t (shown rows)) ≡ map (λ r. r.cost) (run_of starts l t rows)
  run_costs rows starts l t =
      let lo = get_or starts (cell_of l t) 0 in
      let hi = get_or starts (cell_of l t + 1) 0 in
      let ls = shown rows in
      sym (drop-map (λ x. x.cost) lo (take hi ls))
      ∙ ap (drop lo) (sym (take-map (λ x. x.cost) hi ls))
      ∙ ap (λ cs. drop lo (take hi cs)) (costs_shown rows)
      ∙ ap (drop lo) (take-map (λ (x : LabelRow C). x.cost) hi rows)
      ∙ drop-map (λ (x : LabelRow C). x.cost) lo (take hi rows)

  -- one tick more, and after the last
  pub landed_at : (starts : List ℕ) (l : Landing) (t : ℕ) (ls : List (Label C)) → t ≤ l.horizon → landed_from starts l t ls ≡ standing (l.horizon - t) l.goal (run_of starts l t ls) ++ landed_from starts l (t + 1) ls
  landed_at starts l t ls le =
      let f : ℕ → List (Label C) = λ s. standing (l.horizon - s) l.goal (run_of starts l s ls) in
      let left : suc l.horizon - t ≡ suc (suc l.horizon - (t + 1)) = omega arith in
      ap (λ n. joined_lists (map f (range_with_len t n))) left

  pub landed_end : (starts : List ℕ) (l : Landing) (t : ℕ) (ls : List (Label C)) → l.horizon < t → landed_from starts l t ls ≡ []
  landed_end starts l t ls over =
      let f : ℕ → List (Label C) = λ s. standing (l.horizon - s) l.goal (run_of starts l s ls) in
      let none : suc l.horizon - t ≡ 0 = omega arith in
      ap (λ n. joined_lists (map f (range_with_len t n))) none

module _ {C : Type 0} (k : Kind C) (c : C) (rows : List (LabelRow C)) (starts : List ℕ) (l : Landing) where
  -- some label that arrives at tick t dominates
  abbrev pub tick_dominates : ℕ → Bool
  tick_dominates t = list_any (λ r. undercuts k r.cost c) (run_of starts l t rows)

  -- whether a label dominates goes by its cost
  here : (t : ℕ) → tick_dominates t ≡ dominated k (standing (l.horizon - t) l.goal (run_of starts l t (shown rows))) c
  here t =
      let test = λ (a : C). undercuts k a c in
      any_map test (λ r. r.cost) (run_of starts l t rows)
      ∙ ap (list_any test) (sym (standing_costs (l.horizon - t) l.goal (run_of starts l t (shown rows)) ∙ run_costs rows starts l t))
      ∙ sym (any_map test (λ e. e.cost) (standing (l.horizon - t) l.goal (run_of starts l t (shown rows))))

  pub ticks_dominate : (ts : List ℕ) → list_any tick_dominates ts ≡ dominated k (joined_lists (map (λ s. standing (l.horizon - s) l.goal (run_of starts l s (shown rows))) ts)) c
  ticks_dominate [] = refl
  ticks_dominate (t ∷ ts) =
      let rest = joined_lists (map (λ s. standing (l.horizon - s) l.goal (run_of starts l s (shown rows))) ts) in
      let now = standing (l.horizon - t) l.goal (run_of starts l t (shown rows)) in
      ap (λ b. b || list_any tick_dominates ts) (here t) ∙ ap (λ b. dominated k now c || b) (ticks_dominate ts) ∙ sym (list_any-append (λ e. undercuts k e.cost c) now rest)

module _ {C : Type 0} (k : Kind C) (skip : C → Bool) where
  -- looking at whether a cost goes first changes nothing
  better_by : (o : Option (Offer C)) (x : Offer C) → better k skip (shown_lead o) (shown_offer x) ≡ shown_lead (cond (leads k (option_map (λ (b : Offer C). b.cost) o) x.cost && not (skip x.cost)) (Some x) o)
  better_by None x = elim (cases_Bool (skip x.cost)) [ inl e ↦ rw e | inr e ↦ rw e ]
  better_by (Some b) x = elim (cases_Bool (skip x.cost)) [
    | inl e ↦ elim (cases_Bool (k.before x.cost b.cost)) [ inl f ↦ rw (e, f) | inr f ↦ rw (e, f) ]
    | inr e ↦ elim (cases_Bool (k.before x.cost b.cost)) [ inl f ↦ rw (e, f) | inr f ↦ rw (e, f) ]
  ]

  pub lead_became : (o b : Option (Offer C)) (x : Offer C) (t : Bool) → t ≡ (leads k (option_map (λ (b : Offer C). b.cost) o) x.cost && not (skip x.cost)) → b ≡ cond t (Some x) o → better k skip (shown_lead o) (shown_offer x) ≡ shown_lead b
  lead_became o b x t h is = better_by o x ∙ ap (λ z. shown_lead (cond z (Some x) o)) (sym h) ∙ ap shown_lead (sym is)

  module _ (s : Bor (Arrivals C)) (t : ℕ) (le : t ≤ s.now.landing.horizon) where
    abbrev x : Arrivals C
    x = s.now

    abbrev run : List (Label C)
    run = run_of x.starts.now x.landing t (shown x.rows.now)

    abbrev pub stood_from : ℕ → List (Label C)
    stood_from i = standing (x.landing.horizon - t) x.landing.goal (drop i (run_of x.starts.now x.landing t (shown x.rows.now)))

    pub length-run : length (run_of x.starts.now x.landing t (shown x.rows.now)) ≡ length (run_of x.starts.now x.landing t x.rows.now)
    length-run = sym (length-map run (λ l. l.cost)) ∙ ap length (run_costs x.rows.now x.starts.now x.landing t) ∙ length-map (run_of x.starts.now x.landing t x.rows.now) (λ r. r.cost)

    -- one label more that arrives
    pub run-at : (i : ℕ) (r : LabelRow C) (o : Option (Label C)) → i < length (run_of x.starts.now x.landing t x.rows.now) →
        picked k skip o (stood_from i) ≡ picked k skip (better k skip o (shown_offer (record { arrivals = s; cost = (get_or (run_of x.starts.now x.landing t x.rows.now) i r).cost; label = get_or x.starts.now (cell_of x.landing t) 0 + i; tick = t; timely = le }))) (stood_from (i + 1))
    run-at i r o lt =
        let lo = get_or x.starts.now (cell_of x.landing t) 0 in
        let hi = get_or x.starts.now (cell_of x.landing t + 1) 0 in
        let ls = shown x.rows.now in
        let rows = run_of x.starts.now x.landing t x.rows.now in
        let d : Label C = record { cost = r.cost; item = [] } in
        let all : length (shown x.rows.now) ≡ length x.rows.now = length-shown x.rows.now in
        let in_run : i < length (run_of x.starts.now x.landing t (shown x.rows.now)) = omega (arith, length-run) in
        let within : lo + i < hi = omega (arith, in_run, length-drop lo (take hi ls), length-take hi ls) in
        let inside : lo + i < length (shown x.rows.now) = omega (arith, in_run, length-drop lo (take hi ls), length-take hi ls) in
        let same : get_or run i d ≡ get_or ls (lo + i) d = get_or-drop lo (take hi ls) i d ∙ get_or-take hi ls (lo + i) d within in
        let cost : (get_or run i d).cost ≡ (get_or rows i r).cost =
        sym (get_or-map (λ l. l.cost) run i d r.cost in_run) ∙ ap (λ l. get_or l i r.cost) (run_costs x.rows.now x.starts.now x.landing t) ∙ get_or-map (λ (y : LabelRow C). y.cost) rows i r r.cost lt in
        let item : (get_or run i d).item ≡ trace_at ls (lo + i) = ap (λ l. l.item) same ∙ sym (get_or-map (λ l. l.item) ls (lo + i) d [] inside) in
        let is : ◌≡◌ {A = Label C} (record { cost = (get_or run i d).cost; item = replicate (x.landing.horizon - t) x.landing.goal ++ (get_or run i d).item }) (shown_offer (record { arrivals = s; cost = (get_or rows i r).cost; label = lo + i; tick = t; timely = le })) =
        λ j. record { cost = cost j; item = replicate (x.landing.horizon - t) x.landing.goal ++ item j } in
        at_drop_more (λ xs. picked k skip o (standing (x.landing.horizon - t) x.landing.goal xs)) run i d in_run
        ∙ ap (λ y. picked k skip (better k skip o y) (stood_from (i + 1))) is

    pub run_end : (i : ℕ) (o : Option (Label C)) → length (run_of x.starts.now x.landing t x.rows.now) ≤ i → picked k skip o (stood_from i) ≡ o
    run_end i o over = at_drop_all (λ xs. picked k skip o (standing (x.landing.horizon - t) x.landing.goal xs)) run i (omega (arith, length-run))

  -- one tick more
  module _ (l : Landing) where
    pub arrivals-at : (starts : List ℕ) (t : ℕ) (ls : List (Label C)) (o : Option (Label C)) → t ≤ l.horizon → picked k skip o (landed_from starts l t ls) ≡ picked k skip (picked k skip o (standing (l.horizon - t) l.goal (run_of starts l t ls))) (landed_from starts l (t + 1) ls)
    arrivals-at starts t ls o le = ap (picked k skip o) (landed_at starts l t ls le) ∙ picked-append k skip o (standing (l.horizon - t) l.goal (run_of starts l t ls)) (landed_from starts l (t + 1) ls)

    pub arrivals_end : (starts : List ℕ) (t : ℕ) (ls : List (Label C)) (o : Option (Label C)) → l.horizon < t → picked k skip o (landed_from starts l t ls) ≡ o
    arrivals_end starts t ls o over = ap (picked k skip o) (landed_end starts l t ls over)

-- the arrivals are no more than fit in a machine's number
module _ {C : Type 0} (x : Arrivals C) where
  joined_few : (f : ℕ → List (Label C)) → ((t : ℕ) → length (f t) ≤ 65535) → (a n : ℕ) → length (joined_lists (map f (range_with_len a n))) ≤ n * 65535
  joined_few f few a zero = omega arith
  joined_few f few a (suc n) = omega (arith, length-append (f a) (joined_lists (map f (range_with_len (a + 1) n))), few a, joined_few f few (a + 1) n, suc-mul n 65535)

  run_few : (t : ℕ) → length (standing (x.landing.horizon - t) x.landing.goal (run_of x.starts.now x.landing t (shown x.rows.now))) ≤ 65535
  run_few t =
      let l = x.landing in
      let ls = shown x.rows.now in
      let run = run_of x.starts.now x.landing t ls in
      let hi = get_or x.starts.now (cell_of l t + 1) 0 in
      omega (arith, length-map {B = Label C} run (λ (y : Label C). record { cost = y.cost; item = replicate (x.landing.horizon - t) x.landing.goal ++ y.item }), length-drop (get_or x.starts.now (cell_of l t) 0) (take hi ls), length-take hi ls, length-shown x.rows.now, x.lands.few)

  pub arrived_few : length (arrived x) ≤ 65 * 65535
  arrived_few =
      let l = x.landing in
      let n = suc l.horizon - l.first in
      let few : n ≤ 65 = omega (arith, x.lands.ticks) in
      omega (arith, joined_few (λ t. standing (x.landing.horizon - t) x.landing.goal (run_of x.starts.now x.landing t (shown x.rows.now))) run_few l.first n, mul-le-mul_right 65535 few)

  pub left_few : (k : Kind C) → Laws k → (p : Label C → Bool) → length (filter p (front_of k (arrived x))) ≤ 65 * 65535
  left_few k laws p = omega (arith, length-filter p (front_of k (arrived x)), count_by-le-length p (front_of k (arrived x)), front_short k laws (arrived x), arrived_few)

pub all_left : {X : Type 0} (xs : List X) → filter (λ _. true) xs ≡ xs
all_left [] = refl
all_left (x ∷ xs) = ap (λ l. x ∷ l) (all_left xs)

-- the next offer is the first of what is left
module _ {C : Type 0} (k : Kind C) (laws : Laws k) (s : Offers C) where
  pub over : Chooses k s.arrivals.now s.last None (arrived s.arrivals.now) None → offers_left k s ≡ []
  over h = picks_after k laws s.last (arrived s.arrivals.now) None h

  pub taken : (o : Offer C) → Chooses k s.arrivals.now s.last None (arrived s.arrivals.now) (Some o) → offers_left k s ≡ shown_offer o ∷ offers_left k (record { arrivals = s.arrivals; last = Some o.cost })
  taken o h = picks_after k laws s.last (arrived s.arrivals.now) (Some (shown_offer o)) h

-- the offer with a number, as `nth` gives it
pub nth_offer : {C : Type 0} (k : Kind C) (s t : Offers C) (r : Option (Offer C)) (n : ℕ) (xs : List (Label C)) → offers_left k s ≡ xs → SkipsThenYields (YieldsFirstBy shown_offer (offers_left k)) s n r t → shown_lead r ≡ slice_get xs n
nth_offer k s t r n xs left ran = nth_from_yields_List r t n ran (YieldsList-from_first shown_offer (offers_left k) xs left)
