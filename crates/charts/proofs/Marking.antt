-- Marks in the tables: one constraint, and one constraint more.
-- Assumes nothing.
use Rattle.std.proofs.Common.{◌≡◌, ℕ, zero, suc, ◌+◌, ◌-◌, ◌*◌, ◌/◌, ◌%◌, ◌<◌, ◌≤◌, ◌⊎◌, Bool, true, false, ◌&&◌, ◌||◌, eqb, List, [], ◌∷◌, ◌++◌, map, length, get_or, take, drop, set, slice_range, Bor, MutBor, sym, ap, ◌∙◌, subst, inl, inr, ⊎_elim, arith, rules}
use borrow.Rule.Slice.PartMut.{put_mid}
use Rattle.std.proofs.lemmas.Nat.{mul-add-lt, div-mul-add, mod-mul-add}
use Rattle.std.proofs.lemmas.List.{map-append, take_more, get_or-take, get_or-drop, get_or-set_same, get_or-set_other, places}
use Rattle.std.proofs.lemmas.Bool.{cases_lt, cases_eq, eq-eqb, ne_eqb, and_from, and_left, and_right}
use Rattle.rules.specs.Instances.{Move}
use Rattle.rules.specs.Walks.{Constraint, forbids_place, forbids_move, any_of}
use Rattle.charts.specs.declared.chart.Chart.{Chart}
use Rattle.charts.specs.declared.inbound.Inbound.{Inbound}
use Rattle.charts.specs.declared.index.Index.{Index}
use Rattle.charts.specs.declared.marks.Marks.{Marks}
use Rattle.charts.specs.declared.ticks.Ticks.{Ticks}
use Rattle.charts.specs.Charts.{ShutBy, ClosedAlong, Barred, Drawn, SameFrom, leaves}
use Rattle.charts.specs.Indexes.{AllIndexed, IndexOf}
use Rattle.charts.specs.TickSets.{has, no_ticks}
use Rattle.charts.proofs.Flags.{or_false, or_true, or_assoc, and_true}

-- a cell is that of one place and one tick
pub cell_in : (n t p : ℕ) → n ≤ 128 → t ≤ 64 → p < n → t * n + p < 8320
cell_in n t p few low lt = omega (arith, mul-add-lt t n p 65 (omega arith) lt)

same_cell : (n t p t' p' : ℕ) → p < n → p' < n → t * n + p ≡ t' * n + p' → (p ≡ p') × (t ≡ t')
same_cell n t p t' p' lt lt' e =
    (sym (mod-mul-add t n p lt) ∙ ap (λ k. k % n) e ∙ mod-mul-add t' n p' lt', sym (div-mul-add t n p lt) ∙ ap (λ k. k / n) e ∙ div-mul-add t' n p' lt')

module _ (n : ℕ) (was : List Bool) (place tick : ℕ) where
  pub shut_one : length was ≡ 8320 → n ≤ 128 → place < n → tick ≤ 64 → ShutBy n was (set was (tick * n + place) true) (λ p t. eqb p place && eqb t tick)
  shut_one long few lt low t p tl pl = ⊎_elim
      (λ same.
      let e = same_cell n t p tick place pl lt same in
      ap (λ i. get_or (set was (tick * n + place) true) i false) same
      ∙ get_or-set_same was (tick * n + place) true false (omega (arith, cell_in n tick place few low lt))
      ∙ sym (ap (λ b. get_or was (t * n + p) false || b) (and_from (eqb p place) (eqb t tick) (eq-eqb p place e.0) (eq-eqb t tick e.1)) ∙ or_true (get_or was (t * n + p) false)))
      (λ other.
      get_or-set_other was (tick * n + place) (t * n + p) true false other
      ∙ sym (ap (λ b. get_or was (t * n + p) false || b) (not_both p t other) ∙ or_false (get_or was (t * n + p) false)))
      (cases_eq (t * n + p) (tick * n + place))
    where
      not_both : (p t : ℕ) → (t * n + p ≡ tick * n + place → ⊥) → (eqb p place && eqb t tick) ≡ false
      not_both p t other = ⊎_elim
          (λ e. and_right (eqb p place) (eqb t tick) (ne_eqb t tick (λ e'. other (ap (λ k. k * n + p) e' ∙ ap (λ k. tick * n + k) e))))
          (λ ne. and_left (eqb p place) (eqb t tick) (ne_eqb p place ne))
          (cases_eq p place)

  -- and no cell behind all
  pub shut_others : place < n → tick ≤ 64 → SameFrom false (65 * n) was (set was (tick * n + place) true)
  shut_others lt low i past = get_or-set_other was (tick * n + place) i true false (λ same. omega (arith, mul-add-lt tick n place 65 (omega arith) lt))

-- one move more
module _ (moves : List Inbound) (was : List Ticks) (from tick : ℕ) where
  -- the moves below number n are closed, and the others as they were
  pub record ClosedSoFar (after : List Ticks) (n : ℕ) : Type 0 where
    pub below : (e t : ℕ) → e < n → t ≤ 63 → has (get_or after e no_ticks) t ≡ (has (get_or was e no_ticks) t || (eqb (leaves moves e) from && eqb t tick))
    pub behind : (e : ℕ) → n ≤ e → get_or after e no_ticks ≡ get_or was e no_ticks

-- one cell
pub barred_cell : (was after : Marks) (place tick : ℕ) → place < was.places → tick ≤ 64 → after.index ≡ was.index → after.places ≡ was.places → after.closed ≡ was.closed → after.shut.ghost_name ≡ was.shut.ghost_name → after.shut.now ≡ set was.shut.now (tick * was.places + place) true → Barred was after (λ p t. eqb p place && eqb t tick) (λ u p t. false)
barred_cell was after place tick lt low index places closed name shut = record {
  same_index = ap (λ (i : Bor Index). i.now) index;
  same_places = places;
  same_shut = name;
  same_closed = ap (λ (s : MutBor (List Ticks)). s.ghost_name) closed;
  cells = subst (λ s. ShutBy was.places was.shut.now s (λ p t. eqb p place && eqb t tick)) (sym shut) (shut_one was.places was.shut.now place tick was.all_cells was.few lt low);
  departures = λ p e t in_floor lo hi under. ap (λ (s : MutBor (List Ticks)). has (get_or s.now e no_ticks) t) closed ∙ sym (or_false (has (get_or was.closed.now e no_ticks) t));
  other_cells = subst (SameFrom false (65 * was.places) was.shut.now) (sym shut) (shut_others was.places was.shut.now place tick lt low);
  other_moves = λ i past. ap (λ (s : MutBor (List Ticks)). get_or s.now i no_ticks) closed;
}

-- the moves of a later place begin later
rises : (marks : Marks) (p q : ℕ) → p ≤ q → q ≤ marks.places → get_or marks.index.now.begins p 0 ≤ get_or marks.index.now.begins q 0
rises marks p zero le few = let z : p ≡ 0 = omega arith in omega (arith, ap (λ k. get_or marks.index.now.begins k 0) z)
rises marks p (suc q) le few = ⊎_elim
    (λ e. omega (arith, ap (λ k. get_or marks.index.now.begins k 0) e))
    (λ ne.
    let on : q + 1 ≡ suc q = omega arith in
    omega (arith, rises marks p q (omega arith) (omega arith), marks.rising q (omega arith), ap (λ k. get_or marks.index.now.begins k 0) on))
    (cases_eq p (suc q))

-- the moves of one place, of which ys says what is closed now
module _ (was : Marks) (from to tick : ℕ) (lt : to < was.places) (long : length was.index.now.moves ≡ 1024) where
  begin : ℕ
  begin = get_or was.index.now.begins to 0

  end : ℕ
  end = get_or was.index.now.begins (to + 1) 0

  pub barred_moves : (after : Marks) (ys : List Ticks) → after.index ≡ was.index → after.places ≡ was.places → after.shut ≡ was.shut → after.closed.ghost_name ≡ was.closed.ghost_name → length ys ≡ get_or was.index.now.begins (to + 1) 0 - get_or was.index.now.begins to 0
      → after.closed.now ≡ put_mid (get_or was.index.now.begins to 0) (get_or was.index.now.begins (to + 1) 0 - get_or was.index.now.begins to 0) was.closed.now ys
      → ClosedAlong (slice_range was.index.now.moves (get_or was.index.now.begins to 0) (get_or was.index.now.begins (to + 1) 0)) (slice_range was.closed.now (get_or was.index.now.begins to 0) (get_or was.index.now.begins (to + 1) 0)) ys from tick
      → Barred was after (λ p t. false) (λ u p t. (eqb u from && eqb p to) && eqb t tick)
  unfolding begin end
  barred_moves after ys index places_same shut name size closed h = record {
    same_index = ap (λ (i : Bor Index). i.now) index;
    same_places = places_same;
    same_shut = ap (λ (s : MutBor (List Bool)). s.ghost_name) shut;
    same_closed = name;
    cells = λ t p low in_floor. ap (λ (s : MutBor (List Bool)). get_or s.now (t * was.places + p) false) shut ∙ sym (or_false (get_or was.shut.now (t * was.places + p) false));
    departures = λ p e t in_floor lo hi low. ⊎_elim
        (λ here.
        let lo' : begin ≤ e = omega (arith, ap (λ k. get_or was.index.now.begins k 0) here) in
        let hi' : e < end = omega (arith, ap (λ k. get_or was.index.now.begins (k + 1) 0) here) in
        let at : begin + (e - begin) ≡ e = omega arith in
        let none : Inbound = record { from = 0; line = 0 } in
        let step : leaves (slice_range was.index.now.moves begin end) (e - begin) ≡ leaves was.index.now.moves e =
        ap (λ (m : Inbound). m.from) (get_or-take (end - begin) (drop begin was.index.now.moves) (e - begin) none (omega arith) ∙ get_or-drop begin was.index.now.moves (e - begin) none ∙ ap (λ k. get_or was.index.now.moves k none) at) in
        let before : get_or (slice_range was.closed.now begin end) (e - begin) no_ticks ≡ get_or was.closed.now e no_ticks =
        get_or-take (end - begin) (drop begin was.closed.now) (e - begin) _ (omega arith) ∙ get_or-drop begin was.closed.now (e - begin) _ ∙ ap (λ k. get_or was.closed.now k no_ticks) at in
        ap (λ s. has (get_or s e no_ticks) t) closed
        ∙ ap (λ s. has s t) (inside e lo' hi')
        ∙ h (e - begin) t (omega (arith, in_moves e hi')) low
        ∙ ap (λ s. has s t || (eqb (leaves (slice_range was.index.now.moves begin end) (e - begin)) from && eqb t tick)) before
        ∙ ap (λ u. has (get_or was.closed.now e no_ticks) t || (eqb u from && eqb t tick)) step
        ∙ ap (λ b. has (get_or was.closed.now e no_ticks) t || (b && eqb t tick)) (sym (ap (λ b. eqb (leaves was.index.now.moves e) from && b) (eq-eqb p to here) ∙ and_true (eqb (leaves was.index.now.moves e) from))))
        (λ there.
        ap (λ s. has (get_or s e no_ticks) t) closed
        ∙ ap (λ s. has s t) (elsewhere p e there in_floor lo hi)
        ∙ sym (ap (λ b. has (get_or was.closed.now e no_ticks) t || b) (and_left (eqb (leaves was.index.now.moves e) from && eqb p to) (eqb t tick) (and_right (eqb (leaves was.index.now.moves e) from) (eqb p to) (ne_eqb p to there))) ∙ or_false (has (get_or was.closed.now e no_ticks) t)))
        (cases_eq p to);
    other_cells = λ i past. ap (λ (s : MutBor (List Bool)). get_or s.now i false) shut;
    other_moves = λ i past. ap (λ s. get_or s i no_ticks) closed ∙ outside i (inr (omega (arith, rises was (to + 1) was.places (omega arith) (omega arith))));
  }
    where
      ordered : (get_or was.index.now.begins to 0 ≤ get_or was.index.now.begins (to + 1) 0) × (get_or was.index.now.begins (to + 1) 0 ≤ 1024)
      ordered = (was.rising to lt, omega (arith, was.within to lt, long))

      outside : (i : ℕ) → ((i < get_or was.index.now.begins to 0) ⊎ (get_or was.index.now.begins (to + 1) 0 ≤ i)) → get_or (put_mid (get_or was.index.now.begins to 0) (get_or was.index.now.begins (to + 1) 0 - get_or was.index.now.begins to 0) was.closed.now ys) i no_ticks ≡ get_or was.closed.now i no_ticks
      outside i h = search (rules, places)

      inside : (e : ℕ) → get_or was.index.now.begins to 0 ≤ e → e < get_or was.index.now.begins (to + 1) 0 → get_or (put_mid (get_or was.index.now.begins to 0) (get_or was.index.now.begins (to + 1) 0 - get_or was.index.now.begins to 0) was.closed.now ys) e no_ticks ≡ get_or ys (e - get_or was.index.now.begins to 0) no_ticks
      inside e lo hi = search (rules, places)

      in_moves : (e : ℕ) → e < get_or was.index.now.begins (to + 1) 0 → length (slice_range was.index.now.moves (get_or was.index.now.begins to 0) (get_or was.index.now.begins (to + 1) 0)) ≡ get_or was.index.now.begins (to + 1) 0 - get_or was.index.now.begins to 0
      in_moves e hi = search (rules, places)

      elsewhere : (p e : ℕ) → (p ≡ to → ⊥) → p < was.places → get_or was.index.now.begins p 0 ≤ e → e < get_or was.index.now.begins (p + 1) 0 → get_or (put_mid (get_or was.index.now.begins to 0) (get_or was.index.now.begins (to + 1) 0 - get_or was.index.now.begins to 0) was.closed.now ys) e no_ticks ≡ get_or was.closed.now e no_ticks
      elsewhere p e ne in_floor lo hi = outside e (⊎_elim
          (λ below. inl (omega (arith, rises was (p + 1) to (omega arith) (omega arith))))
          (λ above. inr (omega (arith, rises was (to + 1) p (omega arith) (omega arith))))
          (cases_lt p to))

-- one test more
pub barred_more : (was middle after : Marks) (f f' f'' : ℕ → ℕ → Bool) (g g' g'' : ℕ → ℕ → ℕ → Bool) → ((p t : ℕ) → f'' p t ≡ (f p t || f' p t)) → ((u p t : ℕ) → g'' u p t ≡ (g u p t || g' u p t)) →
    Barred was middle f g → Barred middle after f' g' → Barred was after f'' g''
barred_more was middle after f f' f'' g g' g'' places departures first second =
    let n = was.places in
    record {
      same_index = second.same_index ∙ first.same_index;
      same_places = second.same_places ∙ first.same_places;
      same_shut = second.same_shut ∙ first.same_shut;
      same_closed = second.same_closed ∙ first.same_closed;
      cells = λ t p low lt.
          subst (λ (k : ℕ). p < k → get_or after.shut.now (t * k + p) false ≡ (get_or middle.shut.now (t * k + p) false || f' p t)) first.same_places (second.cells t p low) lt
          ∙ ap (λ b. b || f' p t) (first.cells t p low lt) ∙ or_assoc (get_or was.shut.now (t * n + p) false) (f p t) (f' p t) ∙ ap (λ b. get_or was.shut.now (t * n + p) false || b) (sym (places p t));
      departures = λ p e t lt lo hi low.
          subst (λ (i : Index). get_or i.begins p 0 ≤ e → e < get_or i.begins (p + 1) 0 → has (get_or after.closed.now e no_ticks) t ≡ (has (get_or middle.closed.now e no_ticks) t || g' (leaves i.moves e) p t)) first.same_index
          (λ lo' hi'. second.departures p e t (subst (λ (k : ℕ). p < k) (sym first.same_places) lt) lo' hi' low) lo hi
          ∙ ap (λ b. b || g' (leaves was.index.now.moves e) p t) (first.departures p e t lt lo hi low)
          ∙ or_assoc (has (get_or was.closed.now e no_ticks) t) (g (leaves was.index.now.moves e) p t) (g' (leaves was.index.now.moves e) p t)
          ∙ ap (λ b. has (get_or was.closed.now e no_ticks) t || b) (sym (departures (leaves was.index.now.moves e) p t));
      other_cells = λ i past. second.other_cells i (subst (λ (k : ℕ). 65 * k ≤ i) (sym first.same_places) past) ∙ first.other_cells i past;
      other_moves = λ i past.
          subst (λ (k : Index). get_or k.begins n 0 ≤ i → get_or after.closed.now i no_ticks ≡ get_or middle.closed.now i no_ticks) first.same_index
          (subst (λ (k : ℕ). get_or middle.index.now.begins k 0 ≤ i → get_or after.closed.now i no_ticks ≡ get_or middle.closed.now i no_ticks) first.same_places (second.other_moves i)) past
          ∙ first.other_moves i past;
    }

-- one constraint more
any_of_push : (f : Constraint → Bool) (xs : List Constraint) (x : Constraint) → any_of f (xs ++ x ∷ []) ≡ (any_of f xs || f x)
any_of_push f [] x = or_false (f x)
any_of_push f (y ∷ xs) x = ap (λ b. f y || b) (any_of_push f xs x) ∙ sym (or_assoc (f y) (any_of f xs) (f x))

pub any_of_more : {B : Type 0} (rule : B → Constraint) (bs : List B) (i : ℕ) (b : B) → i < length bs → (f : Constraint → Bool) → any_of f (map rule (take (i + 1) bs)) ≡ (any_of f (map rule (take i bs)) || f (rule (get_or bs i b)))
any_of_more rule bs i b lt f =
    ap (λ l. any_of f (map rule l)) (take_more bs i b lt) ∙ ap (any_of f) (map-append rule (take i bs) (get_or bs i b ∷ [])) ∙ any_of_push f (map rule (take i bs)) (rule (get_or bs i b))

-- what was marked in a chart with the floor's index is drawn
pub barred_drawn : (all : List (List Move)) (seen constraints : List Constraint) (cart : ℕ) (was after : Chart) (begun done : Marks) → seen ≡ constraints → begun.places ≡ length all → begun.index.now ≡ after.index → AllIndexed after.index.begins after.index.moves all → IndexOf after.index all →
    begun.shut.now ≡ was.shut → begun.closed.now ≡ was.closed → done.shut.now ≡ after.shut → done.closed.now ≡ after.closed →
    Barred begun done (λ p t. any_of (forbids_place cart p t) seen) (λ u p t. any_of (forbids_move cart u p t) seen) → Drawn all constraints cart was after
barred_drawn all seen constraints cart was after begun done whole places index indexed held shut closed shut' closed' h = record {
  indexed = indexed;
  held = held;
  shut = rw (sym whole, sym places, sym shut, sym shut') h.cells;
  closed = rw (sym whole, sym places, sym index, sym closed, sym closed') h.departures;
  other_cells = rw (sym places, sym shut, sym shut') h.other_cells;
  other_moves = rw (sym places, sym index, sym closed, sym closed') h.other_moves;
}
