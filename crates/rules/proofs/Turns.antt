-- A turn comes to exactly what the turn rule says.
-- Assumes nothing.
use Rattle.std.proofs.Common.{◌≡◌, ℕ, ◌<◌, ◌≤◌, Bool, true, false, cond, ltb, leb, List, [], ◌∷◌, map, length, set, sym, refl, ap, ◌∙◌, subst, inl, inr, arith}
use mathlib.Core.Option.{Option, none, some}
use lib.ListN.{get_elem?}
use Rattle.std.specs.List.{range_with_len}
use Rattle.std.proofs.ByRecursion.{all-has, All-map}
use Rattle.std.proofs.lemmas.Bool.{cond_both, cond-true, cond-false, cases_Bool, cases_lt, both_ways, ltb-true, ltb-false, lt-ltb, le-ltb, leb-true, leb-false, le-leb, lt-leb}
use Rattle.rules.specs.Fronts.{covered}
use Rattle.rules.specs.Instances.{Instance, cart_count}
use Rattle.rules.specs.Offers.{Label, offers, label_count}
use Rattle.rules.specs.Plans.{Conflict, first_conflict}
use Rattle.rules.specs.Search.{Phase, at_branch, seeking, done, Branching, Search, Limits, labels_exceeded, Turned, stopped, went, standing, with_offer, turned_over, branch_cost, list_or_branch, examine, put_back, take_next, seek_offer, all_fit, seek_root, seek, turn_in, turn}
use Rattle.rules.specs.Turns.{its_cart, next_number, to_second, Beaten, staying, Fits, NoneNext, Former, AtBranch, drops, lists, no_list_row, branches, no_trail_row, AtBranching, many_labels, takes, many_labels_below, no_former, turns_over, ends, AtRoots, many_labels_free, moves_on, Rule, at_a_branch, at_a_branching, at_the_roots, at_the_end, TurnsRight}
use Rattle.rules.proofs.Members.{at_place, at_past}
use Rattle.rules.proofs.Fronts.{covered_true, covered_false, covered-cost}
use Rattle.rules.proofs.Conflicts.{is_first, is_none, first_conflict_right}
use Rattle.rules.proofs.RootTurns.{next_root_is, not_all_fit, all_fit-few, one_next_root}

past_none : {X : Type 0} (xs : List X) (n : ℕ) → length xs ≤ n → (o : Option X) → get_elem? xs n ≡ o → o ≡ none
past_none xs n past none e = refl
past_none xs n past (some x) e = absurd (omega (arith, (at_place xs n x e).0))

module _ {C : Type 0} (i : Instance C) (room : Limits) where
  module _ (q : Search C) where
    abbrev is_covered : Bool
    is_covered = covered i.kind q.listed (branch_cost i q)

    covered_beaten : is_covered ≡ true → Beaten i q
    covered_beaten h = covered-cost i.kind q.listed (branch_cost i q) (covered_true i.kind q.listed (branch_cost i q) h)

    uncovered_unbeaten : is_covered ≡ false → Beaten i q → ⊥
    uncovered_unbeaten h (c, at, le) =
        let above : C → Type 0 = λ c. i.kind.at_most c (branch_cost i q) ≡ false in
        both_ways _ (all-has above _ c (All-map above (λ l. l.cost) q.listed (covered_false i.kind q.listed (branch_cost i q) h)) at) le

    beaten_covered : Beaten i q → is_covered ≡ true
    beaten_covered h = elim (cases_Bool is_covered) [ inl e ↦ e | inr e ↦ absurd (uncovered_unbeaten e h) ]

    unbeaten_uncovered : (Beaten i q → ⊥) → is_covered ≡ false
    unbeaten_uncovered h = elim (cases_Bool is_covered) [ inl e ↦ absurd (h (covered_beaten e)) | inr e ↦ e ]

    -- at a branch
    list_or_branch_rule : (Beaten i q → ⊥) → (o : Option Conflict) → first_conflict q.walks 0 i.horizon ≡ o → AtBranch i room q (list_or_branch i room q (branch_cost i q) o)
    list_or_branch_rule new none e =
        cond_both (ltb (length (staying i q)) room.list) _ _ (AtBranch i room q)
        (λ h. lists new (is_none q.walks i.horizon e) (ltb-true _ _ h))
        (λ h. no_list_row new (is_none q.walks i.horizon e) (ltb-false _ _ h))
    list_or_branch_rule new (some x) e =
        cond_both (ltb (length q.trail) room.trail) _ _ (AtBranch i room q)
        (λ h. branches x new (is_first q.walks i.horizon x e) (ltb-true _ _ h))
        (λ h. no_trail_row x new (is_first q.walks i.horizon x e) (ltb-false _ _ h))

    examine_rule : AtBranch i room q (examine i room q)
    examine_rule =
        cond_both is_covered _ _ (AtBranch i room q) (λ h. drops (covered_beaten h))
        (λ h. list_or_branch_rule (uncovered_unbeaten h) (first_conflict q.walks 0 i.horizon) refl)

    goes_to : (Beaten i q → ⊥) → (o : Option Conflict) → first_conflict q.walks 0 i.horizon ≡ o → examine i room q ≡ list_or_branch i room q (branch_cost i q) o
    goes_to new o e = cond-false is_covered _ _ (unbeaten_uncovered new) ∙ ap (list_or_branch i room q (branch_cost i q)) e

    rule_examine : (t : Turned C) → AtBranch i room q t → examine i room q ≡ t
    rule_examine t (drops h) = cond-true is_covered _ _ (beaten_covered h)
    rule_examine t (lists new free fits) = goes_to new none ((first_conflict_right.absent q.walks i.horizon).1 free) ∙ cond-true _ _ _ (lt-ltb _ _ fits)
    rule_examine t (no_list_row new free full) = goes_to new none ((first_conflict_right.absent q.walks i.horizon).1 free) ∙ cond-false _ _ _ (le-ltb _ _ full)
    rule_examine t (branches x new first fits) = goes_to new (some x) ((first_conflict_right.found q.walks i.horizon x).1 first) ∙ cond-true _ _ _ (lt-ltb _ _ fits)
    rule_examine t (no_trail_row x new first full) = goes_to new (some x) ((first_conflict_right.found q.walks i.horizon x).1 first) ∙ cond-false _ _ _ (le-ltb _ _ full)

    -- at a branching
    module _ (b : Branching) (below : List Branching) where
      abbrev now : List (Label C)
      now = offers i (its_cart b) (map standing (b ∷ below))

      abbrev before : List (Label C)
      before = offers i (its_cart b) (map standing below)

      abbrev fits_now : Bool
      fits_now = leb (label_count i (its_cart b) (map standing (b ∷ below))) room.labels

      abbrev fits_before : Bool
      fits_before = leb (label_count i (its_cart b) (map standing below)) room.labels

      -- the carts' numbers with the former one put back
      abbrev numbers : List ℕ
      numbers = set q.numbers (its_cart b) b.former

      put_back_rule : NoneNext i room b below → Fits i room (its_cart b) (map standing below) → (o : Option (Label C)) → get_elem? before b.former ≡ o →
          AtBranching i room q b below (put_back q b below o)
      put_back_rule none_next fits none e = no_former none_next fits (at_past before b.former e)
      put_back_rule none_next fits (some o) e =
          cond_both b.turned below (to_second b numbers ∷ below) (λ trail. AtBranching i room q b below (went 0 (with_offer q seeking trail (its_cart b) b.former o)))
          (ends o none_next (fits, e))
          (turns_over o none_next (fits, e))

      take_next_rule : Fits i room (its_cart b) (map standing (b ∷ below)) → (o : Option (Label C)) → get_elem? now (next_number b) ≡ o →
          AtBranching i room q b below (take_next i room q b below o)
      take_next_rule fits none e =
          let none_next : NoneNext i room b below = (fits, at_past now (next_number b) e) in
          cond_both fits_before _ _ (AtBranching i room q b below)
          (λ h. put_back_rule none_next (leb-true _ _ h) (get_elem? before b.former) refl)
          (λ h. many_labels_below none_next (leb-false _ _ h))
      take_next_rule fits (some o) e = takes o fits e

      seek_offer_rule : AtBranching i room q b below (seek_offer i room q b below)
      seek_offer_rule =
          cond_both fits_now _ _ (AtBranching i room q b below)
          (λ h. take_next_rule (leb-true _ _ h) (get_elem? now (next_number b)) refl)
          (λ h. many_labels (leb-false _ _ h))

      gives_up : NoneNext i room b below → seek_offer i room q b below ≡ cond fits_before (put_back q b below (get_elem? before b.former)) (stopped labels_exceeded)
      gives_up h =
          cond-true fits_now _ _ (le-leb _ _ h.0)
          ∙ ap (take_next i room q b below) (past_none now (next_number b) h.1 (get_elem? now (next_number b)) refl)

      puts_back : (o : Label C) → NoneNext i room b below → Former i room b below o →
          seek_offer i room q b below ≡ went 0 (with_offer q seeking (turned_over b numbers below) (its_cart b) b.former o)
      puts_back o h f = gives_up h ∙ cond-true fits_before _ _ (le-leb _ _ f.0) ∙ ap (put_back q b below) f.1

      rule_seek_offer : (t : Turned C) → AtBranching i room q b below t → seek_offer i room q b below ≡ t
      rule_seek_offer t (many_labels h) = cond-false fits_now _ _ (lt-leb _ _ h)
      rule_seek_offer t (takes o fits e) = cond-true fits_now _ _ (le-leb _ _ fits) ∙ ap (take_next i room q b below) e
      rule_seek_offer t (many_labels_below h exceeds) = gives_up h ∙ cond-false fits_before _ _ (lt-leb _ _ exceeds)
      rule_seek_offer t (no_former h fits past) =
          gives_up h ∙ cond-true fits_before _ _ (le-leb _ _ fits) ∙ ap (put_back q b below) (past_none before b.former past (get_elem? before b.former) refl)
      rule_seek_offer t (turns_over o h f first) = puts_back o h f ∙ ap (λ trail. went 0 (with_offer q seeking trail (its_cart b) b.former o)) (cond-false b.turned _ _ first)
      rule_seek_offer t (ends o h f second) = puts_back o h f ∙ ap (λ trail. went 0 (with_offer q seeking trail (its_cart b) b.former o)) (cond-true b.turned _ _ second)

    -- at the roots
    module _ (bare : q.trail ≡ []) where
      abbrev all_fits : Bool
      all_fits = all_fit i room (range_with_len 0 (cart_count i))

      seek_root_rule : AtRoots i room q (seek_root i room q)
      seek_root_rule =
          cond_both all_fits _ _ (AtRoots i room q)
          (λ h. moves_on _ (λ c known. few h c known) (next_root_is i q bare))
          (λ h. let x = not_all_fit i room 0 (cart_count i) h in many_labels_free x.0 (omega (arith, x.2)) x.3)
        where
          few : all_fits ≡ true → (c : ℕ) → c < cart_count i → Fits i room c []
          few h c known = elim (cases_lt room.labels (label_count i c [])) [ inl more ↦ absurd (all_fit-few i room 0 (cart_count i) h (c, omega arith, omega arith, more)) | inr fits ↦ fits ]

      rule_seek_root : (t : Turned C) → AtRoots i room q t → seek_root i room q ≡ t
      rule_seek_root t (many_labels_free c known exceeds) =
          elim (cases_Bool all_fits) [ inl h ↦ absurd (all_fit-few i room 0 (cart_count i) h (c, omega arith, omega arith, exceeds)) | inr h ↦ cond-false all_fits _ _ h ]
      rule_seek_root t (moves_on r fits next) =
          elim (cases_Bool all_fits) [
            | inl h ↦ cond-true all_fits _ _ h ∙ ap (went 0) (one_next_root i (next_root_is i q bare) next)
            | inr h ↦ let x = not_all_fit i room 0 (cart_count i) h in absurd (omega (arith, x.3, fits x.0 (omega (arith, x.2))))
          ]

    seek_rule : q.phase ≡ seeking → (trail : List Branching) → q.trail ≡ trail → Rule i room q (seek i room q trail)
    seek_rule e [] bare = at_the_roots e bare (seek_root_rule bare)
    seek_rule e (b ∷ below) top = at_a_branching b below e top (seek_offer_rule b below)

    turn_rule : (p : Phase) → q.phase ≡ p → Rule i room q (turn_in i room p q)
    turn_rule at_branch e = at_a_branch e examine_rule
    turn_rule seeking e = seek_rule e q.trail refl
    turn_rule done e = at_the_end e refl

    in_phase : (p : Phase) → q.phase ≡ p → turn i room q ≡ turn_in i room p q
    in_phase p e = ap (λ x. turn_in i room x q) e

    rule_turn : (t : Turned C) → Rule i room q t → turn i room q ≡ t
    rule_turn t (at_a_branch e h) = in_phase at_branch e ∙ rule_examine t h
    rule_turn t (at_a_branching b below e top h) = in_phase seeking e ∙ ap (seek i room q) top ∙ rule_seek_offer b below t h
    rule_turn t (at_the_roots e bare h) = in_phase seeking e ∙ ap (seek i room q) bare ∙ rule_seek_root bare t h
    rule_turn t (at_the_end e h) = in_phase done e ∙ sym h

pub turns_right : {C : Type 0} → TurnsRight C
turns_right i room q t = (λ e. subst (Rule i room q) e (turn_rule i room q q.phase refl), rule_turn i room q t)
