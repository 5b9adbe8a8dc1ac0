-- The turn rule, case by case, as a relation: what a turn comes to from any state, and each stop on its condition.
-- Assumes nothing.
use Rattle.std.specs.Prelude.{◌≡◌, ℕ, ◌<◌, ◌≤◌, true, false, ◌⊎◌, ◌↔◌, List, [], ◌∷◌, map, length, slice_index, slice_set}
use Rattle.std.proofs.Math.Option.{none, some}
use Rattle.std.proofs.Math.ListN.{get_elem?}
use Rattle.std.specs.List.{ContainsAt as Has}
use Rattle.rules.specs.Kinds.{AtMost}
use Rattle.rules.specs.Fronts.{unbeaten, placed}
use Rattle.rules.specs.Instances.{Instance, cart_count}
use Rattle.rules.specs.Walks.{Constraint, subject}
use Rattle.rules.specs.Offers.{Label, offers, label_count}
use Rattle.rules.specs.Plans.{Conflict}
use Rattle.rules.specs.Conflicts.{NoConflict, First}
use Rattle.rules.specs.Search.{at_branch, seeking, done, Branching, Line, Search, Limits, offer_missing, labels_exceeded, trail_full, list_full, Turned, stopped, went, standing, untaken, sought, with_offer, ended, branch_cost, at_root, turn}
use Rattle.rules.specs.Guarantee.{IsRoot, RootBefore, NotTaken, listed_costs}

-- the cart of a branching's standing constraint, the number of its next offer, and the branching once that is taken
abbrev pub its_cart : Branching → ℕ
its_cart b = subject (standing b)

abbrev pub next_number : Branching → ℕ
next_number b = untaken b.taken

abbrev pub with_next : Branching → Branching
with_next b = record { first = b.first; second = b.second; turned = b.turned; taken = some (next_number b); former = b.former }

-- and the branching as it turns to its second constraint, where the carts' offers are numbered so
abbrev pub to_second : Branching → List ℕ → Branching
to_second b numbers = record { first = b.first; second = b.second; turned = true; taken = none; former = slice_index numbers (subject b.second) }

-- a branching on a conflict: the lower cart's constraint stands, and no offer is taken
abbrev pub branching : {C : Type 0} → Search C → Conflict → Branching
branching q x = record { first = x.0; second = x.1; turned = false; taken = none; former = slice_index q.numbers (subject x.0) }

module _ {C : Type 0} (i : Instance C) where
  -- a listed cost is at most the branch's
  abbrev pub Beaten : Search C → Type 0
  Beaten q = (c : C) × Has (listed_costs q) c × AtMost i.kind c (branch_cost i q)

  -- the lines that stay when the branch is listed: those whose cost its cost is not at most
  abbrev pub staying : Search C → List (Line C)
  staying q = unbeaten i.kind q.listed (branch_cost i q)

  -- the branch among them, at its place in the kind's order
  abbrev pub with_branch : Search C → List (Line C)
  with_branch q = placed i.kind (staying q) (record { cost = branch_cost i q; item = q.walks })

  -- the first of the roots not yet taken is taken, or the search is done if there is none
  pub data NextRoot (q : Search C) : Search C → Type 0 where
    taken : (ns : List ℕ) → IsRoot i 0 ns → NotTaken q ns → ((ms : List ℕ) → IsRoot i 0 ms → NotTaken q ms → (ns ≡ ms) ⊎ RootBefore ns ms) →
        NextRoot q (at_root i q ns)
    none_left : ((ns : List ℕ) → IsRoot i 0 ns → NotTaken q ns → ⊥) → NextRoot q (ended q)

  module _ (room : Limits) where
    -- the label rows suffice for a cart under some constraints; they do not
    abbrev pub Fits : ℕ → List Constraint → Type 0
    Fits cart bans = label_count i cart bans ≤ room.labels

    abbrev pub Exceeds : ℕ → List Constraint → Type 0
    Exceeds cart bans = room.labels < label_count i cart bans

    -- a branching's cart has no next offer under the standing constraints
    abbrev pub NoneNext : Branching → List Branching → Type 0
    NoneNext b below = Fits (its_cart b) (map standing (b ∷ below)) × (length (offers i (its_cart b) (map standing (b ∷ below))) ≤ next_number b)

    -- its cart's former offer, under the constraints below it
    abbrev pub Former : Branching → List Branching → Label C → Type 0
    Former b below o = Fits (its_cart b) (map standing below) × (get_elem? (offers i (its_cart b) (map standing below)) b.former ≡ some o)

    -- at a branch: it is dropped, or listed, or branched on
    pub data AtBranch (q : Search C) : Turned C → Type 0 where
      drops : Beaten q → AtBranch q (went 1 (sought q q.trail q.listed))
      lists : (Beaten q → ⊥) → NoConflict q.walks i.horizon → length (staying q) < room.list → AtBranch q (went 1 (sought q q.trail (with_branch q)))
      no_list_row : (Beaten q → ⊥) → NoConflict q.walks i.horizon → room.list ≤ length (staying q) → AtBranch q (stopped list_full)
      branches : (x : Conflict) → (Beaten q → ⊥) → First q.walks i.horizon x → length q.trail < room.trail →
          AtBranch q (went 1 (sought q (branching q x ∷ q.trail) q.listed))
      no_trail_row : (x : Conflict) → (Beaten q → ⊥) → First q.walks i.horizon x → room.trail ≤ length q.trail → AtBranch q (stopped trail_full)

    -- seeking with a branching on top of the trail: its cart's next offer is taken; if there is none, the former one is put back, and the
    -- branching turns to its second constraint or, if that stood, is taken away
    pub data AtBranching (q : Search C) (b : Branching) (below : List Branching) : Turned C → Type 0 where
      many_labels : Exceeds (its_cart b) (map standing (b ∷ below)) → AtBranching q b below (stopped labels_exceeded)
      takes : (o : Label C) → Fits (its_cart b) (map standing (b ∷ below)) → get_elem? (offers i (its_cart b) (map standing (b ∷ below))) (next_number b) ≡ some o →
          AtBranching q b below (went 0 (with_offer q at_branch (with_next b ∷ below) (its_cart b) (next_number b) o))
      many_labels_below : NoneNext b below → Exceeds (its_cart b) (map standing below) → AtBranching q b below (stopped labels_exceeded)
      no_former : NoneNext b below → Fits (its_cart b) (map standing below) → length (offers i (its_cart b) (map standing below)) ≤ b.former →
          AtBranching q b below (stopped offer_missing)
      turns_over : (o : Label C) → NoneNext b below → Former b below o → b.turned ≡ false →
          AtBranching q b below (went 0 (with_offer q seeking (to_second b (slice_set q.numbers (its_cart b) b.former) ∷ below) (its_cart b) b.former o))
      ends : (o : Label C) → NoneNext b below → Former b below o → b.turned ≡ true →
          AtBranching q b below (went 0 (with_offer q seeking below (its_cart b) b.former o))

    -- seeking with no branching: the labels of every cart are counted, and the next root is taken
    pub data AtRoots (q : Search C) : Turned C → Type 0 where
      many_labels_free : (c : ℕ) → c < cart_count i → Exceeds c [] → AtRoots q (stopped labels_exceeded)
      moves_on : (r : Search C) → ((c : ℕ) → c < cart_count i → Fits c []) → NextRoot q r → AtRoots q (went 0 r)

    pub data Rule (q : Search C) (t : Turned C) : Type 0 where
      at_a_branch : q.phase ≡ at_branch → AtBranch q t → Rule q t
      at_a_branching : (b : Branching) (below : List Branching) → q.phase ≡ seeking → q.trail ≡ b ∷ below → AtBranching q b below t → Rule q t
      at_the_roots : q.phase ≡ seeking → q.trail ≡ [] → AtRoots q t → Rule q t
      at_the_end : q.phase ≡ done → t ≡ went 0 q → Rule q t

-- a turn comes to exactly what the rule says: every instance, sound or not, every room and every state
abbrev pub TurnsRight : Type 0 → Type 0
TurnsRight C = (i : Instance C) (room : Limits) (q : Search C) (t : Turned C) → (turn i room q ≡ t) ↔ Rule i room q t
