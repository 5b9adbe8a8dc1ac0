-- An advance answers exactly what holds of its turns.
-- Assumes nothing.
use Rattle.std.proofs.Common.{◌≡◌, ℕ, zero, suc, ◌+◌, ◌<◌, ◌≤◌, Bool, true, false, cond, leb, List, [], ◌∷◌, map, sym, refl, ap, ◌∙◌, subst, inl, inr, arith}
use mathlib.Core.Option.{Option, none, some}
use Rattle.std.proofs.lemmas.Bool.{both_ways, cases_eq, cases_order, cond_both}
use Rattle.rules.specs.Instances.{Instance}
use Rattle.rules.specs.Fronts.{covered}
use Rattle.rules.specs.Walks.{subject}
use Rattle.rules.specs.Offers.{Label, label_count}
use Rattle.rules.specs.Plans.{Conflict}
use Rattle.rules.specs.Search.{Phase, at_branch, seeking, done, Branching, Search, Limits, offer_missing, trail_full, standing, branch_cost, Stop, Turned, stopped, went, turn, made, is_done, Ending, budget_spent, search_done, stop, Advance, going, over, after_turn, ended_by_budget, turns_of, advance, list_or_branch, put_back, take_next, seek, turn_in}
use Rattle.rules.specs.Guarantee.{Reached, at_once, by_turn}
use Rattle.rules.specs.Advances.{examined_in, Run, no_turn, then_turn, EndsBy, Advanced, InAll, no_advance, then_advance, AdvanceRight, AdvancesRight}
use Rattle.rules.proofs.RootTurns.{stopped_not_went}
use Rattle.rules.proofs.Guarantee.{guaranteed}

finished : (p : Phase) → is_done p ≡ true → p ≡ done
finished at_branch e = absurd (both_ways false refl e)
finished seeking e = absurd (both_ways false refl e)
finished done e = refl

not_finished : (p : Phase) → is_done p ≡ false → p ≡ done → ⊥
not_finished p e f = both_ways true (rw f at e) refl

module _ {C : Type 0} (i : Instance C) (room : Limits) where
  -- a turn that goes examines k branches
  data Counts (k : ℕ) : Turned C → Type 0 where
    stops : {s : Stop} → Counts k (stopped s)
    goes : {q : Search C} → Counts k (went k q)

  counts_or : {k : ℕ} (b : Bool) {x y : Turned C} → Counts k x → Counts k y → Counts k (cond b x y)
  counts_or true h g = h
  counts_or false h g = g

  counts_branch : (q : Search C) (c : C) (o : Option Conflict) → Counts 1 (list_or_branch i room q c o)
  counts_branch q c none = counts_or _ goes stops
  counts_branch q c (some b) = counts_or _ goes stops

  counts_back : (q : Search C) (b : Branching) (below : List Branching) (o : Option (Label C)) → Counts 0 (put_back q b below o)
  counts_back q b below none = stops
  counts_back q b below (some o) = goes

  counts_next : (q : Search C) (b : Branching) (below : List Branching) (o : Option (Label C)) → Counts 0 (take_next i room q b below o)
  counts_next q b below none = counts_or (leb (label_count i (subject (standing b)) (map standing below)) room.labels) (counts_back q b below _) stops
  counts_next q b below (some o) = goes

  counts_seek : (q : Search C) (trail : List Branching) → Counts 0 (seek i room q trail)
  counts_seek q [] = counts_or _ goes stops
  counts_seek q (b ∷ below) = counts_or (leb (label_count i (subject (standing b)) (map standing (b ∷ below))) room.labels) (counts_next q b below _) stops

  counts : (q : Search C) (p : Phase) → Counts (examined_in p) (turn_in i room p q)
  counts q at_branch = counts_or (covered i.kind q.listed (branch_cost i q)) goes (counts_branch q _ _)
  counts q seeking = counts_seek q q.trail
  counts q done = goes

  count_is : {k x : ℕ} {q : Search C} → Counts k (went x q) → x ≡ k
  count_is goes = refl

  counted : (x : ℕ) (q r : Search C) → turn i room q ≡ went x r → x ≡ examined_in q.phase
  counted x q r e = count_is (subst (Counts (examined_in q.phase)) e (counts q q.phase))

  -- runs: by their numbers, one after another, and that turns lead to one state
  run_like : {q r : Search C} {n m e f : ℕ} → n ≡ m → e ≡ f → Run i room q n e r → Run i room q m f r
  run_like {q} {r} {n} {m} {e} {f} same also_same run = rw (sym same, sym also_same) run

  run_on : {q r s : Search C} {n m e f : ℕ} → Run i room q n e r → Run i room r m f s → Run i room q (n + m) (e + f) s
  run_on run no_turn = run_like (omega arith) (omega arith) run
  run_on run (then_turn more on t) = run_like (omega arith) (omega arith) (then_turn (run_on run more) on t)

  run_reached : {q r : Search C} {m n e : ℕ} → Reached i room m q → Run i room q n e r → Reached i room (m + n) r
  run_reached {m} h no_turn = let same : m + 0 ≡ m = omega arith in rw same h
  run_reached {m} h (then_turn {n} run on t) = let same : m + suc n ≡ suc (m + n) = omega arith in rw same (by_turn (run_reached h run) on t)

  same_run : {q r s : Search C} {n m e f : ℕ} → Run i room q n e r → Run i room q m f s → n ≡ m → (e ≡ f) × (r ≡ s)
  same_run no_turn no_turn same = (refl, refl)
  same_run no_turn (then_turn run on t) same = absurd (omega arith)
  same_run (then_turn run on t) no_turn same = absurd (omega arith)
  same_run (then_turn {x} {r} {s} run on t) (then_turn {x = x'} {r = r'} {s = s'} run' on' t') same =
      let (e, q) = same_run run run' (omega arith) in
      let turns : went x s ≡ went x' s' = sym t ∙ ap (turn i room) q ∙ t' in
      ((λ j. e j + examined_in (q j).phase), cc)

  -- a run that is longer than another goes on from where that leads
  goes_on : {q r s : Search C} {n m e f : ℕ} → Run i room q n e r → Run i room q m f s → n < m → (is_done r.phase ≡ false) × (x : ℕ) × (s : Search C) × (turn i room r ≡ went x s)
  goes_on run no_turn less = absurd (omega arith)
  goes_on {n} run (then_turn {n = m} {x = x} {s = s} longer on t) less =
      elim (cases_eq n m) [
        | inl same ↦ let at_it = sym (same_run run longer same).1 in (subst (λ q. is_done q.phase ≡ false) at_it on, x, s, subst (λ q. turn i room q ≡ went x s) at_it t)
        | inr apart ↦ goes_on run longer (omega arith)
      ]

  -- an advance from q with a budget
  module _ (budget : ℕ) (q : Search C) where
    abbrev Ended : Advance C → Type 0
    Ended (going n e r) = ⊥
    Ended (over n e why r) = Advanced i room budget q n e why r

    turns_over : (b n e : ℕ) (why : Ending) (r : Search C) → turns_of i room b (over n e why r) ≡ over n e why r
    turns_over zero n e why r = refl
    turns_over (suc b) n e why r = turns_over b n e why r

    has_ended : (b n e : ℕ) (why : Ending) (r : Search C) → Run i room q n e r → n ≤ budget → EndsBy i room budget n r why →
        Ended (ended_by_budget (turns_of i room b (over n e why r)))
    has_ended b n e why r run within ends = rw (turns_over b n e why r) (record { run = run; within = within; ends = ends })

    -- where the next turn stops the advance ends, else it goes on
    by_turn_or_stop : (b n e : ℕ) (r : Search C) → n < budget → is_done r.phase ≡ false → Run i room q n e r →
        ((x : ℕ) (s : Search C) → turn i room r ≡ went x s → Ended (ended_by_budget (turns_of i room b (going (suc n) (e + x) s)))) →
        (t : Turned C) → turn i room r ≡ t → Ended (ended_by_budget (turns_of i room b (after_turn n e r t)))
    by_turn_or_stop b n e r within on run next (stopped s) t = has_ended b n e (stop s) r run (omega arith) (on, within, t)
    by_turn_or_stop b n e r within on run next (went x s) t = next x s t

    takes : (b n e : ℕ) (r : Search C) → n + b ≡ budget → Run i room q n e r → Ended (ended_by_budget (turns_of i room b (going n e r)))
    takes zero n e r sum run =
        cond_both (is_done r.phase) search_done budget_spent (λ why. Advanced i room budget q n e why r)
        (λ ready. record { run = run; within = omega arith; ends = finished r.phase ready })
        (λ on. record { run = run; within = omega arith; ends = (on, omega arith) })
    takes (suc b) n e r sum run =
        cond_both (is_done r.phase) (over n e search_done r) (after_turn n e r (turn i room r)) (λ a. Ended (ended_by_budget (turns_of i room b a)))
        (λ ready. has_ended b n e search_done r run (omega arith) (finished r.phase ready))
        (λ on.
        by_turn_or_stop b n e r (omega arith) on run
        (λ x s t. takes b (suc n) (e + x) s (omega arith) (run_like refl (ap (λ k. e + k) (sym (counted x r s t))) (then_turn run on t)))
        (turn i room r) refl)

    advanced : Ended (advance i room budget q)
    advanced = takes budget 0 0 q (omega arith) no_turn

    ended-over : (a : Advance C) → Ended a → (n e : ℕ) × (why : Ending) × (r : Search C) × (a ≡ over n e why r)
    ended-over (going n e r) h = absurd h
    ended-over (over n e why r) h = (n, e, why, r, refl)

    answer : (n e : ℕ) × (why : Ending) × (r : Search C) × (advance i room budget q ≡ over n e why r)
    answer = ended-over (advance i room budget q) advanced

    answered : (n e : ℕ) (why : Ending) (r : Search C) → advance i room budget q ≡ over n e why r → Advanced i room budget q n e why r
    answered n e why r a = subst Ended a advanced

    -- no run goes on from where an advance ends
    no_further : (n e : ℕ) (why : Ending) (r : Search C) → EndsBy i room budget n r why → {m f : ℕ} {s : Search C} → Run i room q n e r → Run i room q m f s → m ≤ budget → n < m → ⊥
    no_further n e budget_spent r ends run longer within less = omega arith
    no_further n e search_done r ends run longer within less = not_finished r.phase (goes_on run longer less).0 ends
    no_further n e (stop s) r ends run longer within less = stopped_not_went (sym ends.2 ∙ (goes_on run longer less).3)

    one_ending : (n : ℕ) (r : Search C) (v w : Ending) → EndsBy i room budget n r v → EndsBy i room budget n r w → v ≡ w
    one_ending n r budget_spent budget_spent h g = refl
    one_ending n r budget_spent search_done h g = absurd (not_finished r.phase h.0 g)
    one_ending n r budget_spent (stop s) h g = absurd (omega arith)
    one_ending n r search_done budget_spent h g = absurd (not_finished r.phase g.0 h)
    one_ending n r search_done search_done h g = refl
    one_ending n r search_done (stop s) h g = absurd (not_finished r.phase g.0 h)
    one_ending n r (stop s) budget_spent h g = absurd (omega arith)
    one_ending n r (stop s) search_done h g = absurd (not_finished r.phase h.0 g)
    one_ending n r (stop s) (stop s') h g = let same : stopped s ≡ stopped s' = sym h.2 ∙ g.2 in let stops_same : s ≡ s' = cc in ap stop stops_same

    one_answer : (n m e f : ℕ) (v w : Ending) (r s : Search C) → Advanced i room budget q n e v r → Advanced i room budget q m f w s → over n e v r ≡ over m f w s
    one_answer n m e f v w r s a b =
        elim (cases_order n m) [
          | inl same ↦
              let (examined, there) = same_run a.run b.run same in
              let why = one_ending m s v w (subst (λ k. EndsBy i room budget k s v) same (subst (λ x. EndsBy i room budget n x v) there a.ends)) b.ends in
              λ j. over (same j) (examined j) (why j) (there j)
          | inr (inl less) ↦ absurd (no_further n e v r a.ends a.run b.run b.within less)
          | inr (inr less) ↦ absurd (no_further m f w s b.ends b.run a.run a.within less)
        ]

    answers_it : (n e : ℕ) (why : Ending) (r : Search C) → Advanced i room budget q n e why r → advance i room budget q ≡ over n e why r
    answers_it n e why r a =
        let (m, f, w, s, given) = answer in
        given ∙ one_answer m n f e w why s r (answered m f w s given) a

  told : (budget n : ℕ) (r : Search C) (why : Ending) → EndsBy i room budget n r why → r.phase ≡ done → why ≡ search_done
  told budget n r budget_spent ends ready = absurd (not_finished r.phase ends.0 ready)
  told budget n r search_done ends ready = refl
  told budget n r (stop s) ends ready = absurd (not_finished r.phase ends.0 ready)

  later_end : (first second n : ℕ) (r : Search C) (why : Ending) → EndsBy i room second n r why → EndsBy i room (first + second) (first + n) r why
  later_end first second n r budget_spent ends = (ends.0, omega arith)
  later_end first second n r search_done ends = ends
  later_end first second n r (stop s) ends = (ends.0, omega arith, ends.2)

  larger_end : (budget more n : ℕ) (r : Search C) (why : Ending) → (why ≡ budget_spent → ⊥) → budget ≤ more → EndsBy i room budget n r why → EndsBy i room more n r why
  larger_end budget more n r budget_spent unspent le ends = absurd (unspent refl)
  larger_end budget more n r search_done unspent le ends = ends
  larger_end budget more n r (stop s) unspent le ends = (ends.0, omega arith, ends.2)

  resume : (first second m n e f : ℕ) (why : Ending) (q r s : Search C) → Advanced i room first q m e budget_spent r → Advanced i room second r n f why s →
      Advanced i room (first + second) q (m + n) (e + f) why s
  resume first second m n e f why q r s a b =
      let spent : m ≡ first = a.ends.1 in
      record {
        run = run_on a.run b.run;
        within = omega (arith, b.within);
        ends = subst (λ k. EndsBy i room (first + second) (k + n) s why) (sym spent) (later_end first second n s why b.ends);
      }

  advance-reached : (budget m n e : ℕ) (why : Ending) (q r : Search C) → Reached i room m q → advance i room budget q ≡ over n e why r → Reached i room (m + n) r
  advance-reached budget m n e why q r h a = run_reached h (answered budget q n e why r a).run

  all_reached : (budgets : List ℕ) (n : ℕ) (q : Search C) → InAll i room (made i) budgets n q → Reached i room n q
  all_reached budgets n q no_advance = at_once
  all_reached budgets n q (then_advance {budgets = rest} {m = m} {r = r} budget k e why before a) = advance-reached budget m k e why r q (all_reached rest m r before) a

  advance_right : AdvanceRight i room
  advance_right =
      record {
        answers = answer;
        exact = λ budget n e why q r. (answered budget q n e why r, answers_it budget q n e why r);
        done_told = λ budget n e why q r a ready. told budget n r why (answered budget q n e why r a).ends ready;
        reached = advance-reached;
        resumed = λ first second m n e f why q r s a b.
            answers_it (first + second) q (m + n) (e + f) why s
            (resume first second m n e f why q r s (answered first q m e budget_spent r a) (answered second r n f why s b));
        larger = λ budget more n e why q r unspent a le.
            let h = answered budget q n e why r a in
            answers_it more q n e why r (record { run = h.run; within = omega (arith, h.within); ends = larger_end budget more n r why unspent le h.ends });
        in_all = all_reached;
        bounded = λ sound. let most = (guaranteed i sound room).turns_bounded in (most.0, λ budgets n q h. most.1 n q (all_reached budgets n q h));
        no_offer_missing = λ sound budget m n e q r h a.
            (guaranteed i sound room).no_offer_missing (m + n) r (advance-reached budget m n e (stop offer_missing) q r h a) (answered budget q n e (stop offer_missing) r a).ends.2;
        trail_suffices = λ sound fits budget m n e q r h a.
            (guaranteed i sound room).trail_suffices fits (m + n) r (advance-reached budget m n e (stop trail_full) q r h a) (answered budget q n e (stop trail_full) r a).ends.2;
      }

pub advances_right : {C : Type 0} → AdvancesRight C
advances_right i room = advance_right i room
