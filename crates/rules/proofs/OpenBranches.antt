-- What a search leaves open are branches: a cost of each cart's offers under the branch's constraints.
-- Assumes nothing.
use Rattle.std.proofs.Common.{◌≡◌, ℕ, ◌<◌, ◌⊎◌, List, [], ◌∷◌, map, length, get_or, set, sym, refl, ◌∙◌, subst, inl, inr, arith}
use Rattle.std.specs.List.{ContainsAt as Has}
use Rattle.std.proofs.lemmas.List.{get_or-set_same, get_or-set_other, length-set, length-map}
use Rattle.std.proofs.ByRecursion.{has_get_or}
use Rattle.std.proofs.lemmas.Bool.{cases_eq}
use Rattle.rules.specs.Instances.{Instance, cart_count}
use Rattle.rules.specs.Walks.{Constraint, subject}
use Rattle.rules.specs.Offers.{offers, offer_costs}
use Rattle.rules.specs.Search.{Phase, at_branch, seeking, done, Branching, Search, standing, free_offers}
use Rattle.rules.specs.Guarantee.{offer_cost, costs_of, undone, IsRoot, Left, under_standing, under_second, deeper, Open, here, root, left, Branch}
use Rattle.rules.proofs.Members.{at_place}
use Rattle.rules.proofs.OtherCarts.{offers_same}
use Rattle.rules.proofs.Roots.{free_within, length_within, length_free, free_picked}
use Rattle.rules.proofs.Branches.{length-costs_of, costs_of-at}
use Rattle.rules.proofs.Invariant.{Holds, Waiting, Rows, Inv, wait, costs_are}

phases : (p : Phase) → (p ≡ at_branch) ⊎ ((p ≡ seeking) ⊎ (p ≡ done))
phases at_branch = inl refl
phases seeking = inr (inl refl)
phases done = inr (inr refl)

module _ {C : Type 0} (i : Instance C) where
  -- each cart's number is an offer's
  abbrev Numbered : List Constraint → List ℕ → Type 0
  Numbered bans ns = (length ns ≡ cart_count i) × ((c : ℕ) → c < cart_count i → get_or ns c 0 < length (offers i c bans))

  has-cost : (bans : List Constraint) (c n : ℕ) → n < length (offers i c bans) → Has (offer_costs i c bans) (offer_cost i bans c n)
  has-cost bans c n lt =
      let short : n < length (offer_costs i c bans) = omega (arith, length-map (offers i c bans) (λ o. o.cost)) in
      has_get_or (offer_costs i c bans) n i.kind.zero short

  costs_branch : (bans : List Constraint) (ns : List ℕ) → Numbered bans ns → Branch i bans (costs_of i bans 0 ns)
  costs_branch bans ns h = (
    length-costs_of i bans 0 ns ∙ h.0,
    λ c known. rw (costs_of-at i bans ns c (omega (arith, h.0))) (has-cost bans c (get_or ns c 0) (h.1 c known)),
  )

  -- one constraint more, with an offer of its cart under it
  branch_under : (x : Constraint) (bans : List Constraint) (ns : List ℕ) (n : ℕ) → Numbered bans ns → n < length (offers i (subject x) (x ∷ bans)) →
      Branch i (x ∷ bans) (set (costs_of i bans 0 ns) (subject x) (offer_cost i (x ∷ bans) (subject x) n))
  branch_under x bans ns n h lt = (
    length-set costs (subject x) new ∙ branch.0,
    λ c known. elim (cases_eq c (subject x)) [
      | inl same ↦ subst (λ a. Has (offer_costs i a (x ∷ bans)) (get_or (set costs (subject x) new) a i.kind.zero)) (sym same) (its (omega (arith, branch.0)))
      | inr apart ↦ rw (get_or-set_other costs (subject x) c new i.kind.zero apart, offers_same i c x bans (λ e. apart (sym e))) (branch.1 c known)
    ],
  )
    where
      costs : List C
      costs = costs_of i bans 0 ns

      new : C
      new = offer_cost i (x ∷ bans) (subject x) n

      branch : Branch i bans costs
      branch = costs_branch bans ns h

      its : subject x < length costs → Has (offer_costs i (subject x) (x ∷ bans)) (get_or (set costs (subject x) new) (subject x) i.kind.zero)
      its inside = rw (get_or-set_same costs (subject x) new i.kind.zero inside) (has-cost (x ∷ bans) (subject x) n lt)

  -- while an offer is sought for the top branching's cart, each other cart has a number of an offer under the constraints below
  abbrev Others : List Branching → List ℕ → Type 0
  Others [] ns = Unit {0}
  Others (b ∷ below) ns = (c : ℕ) → c < cart_count i → (c ≡ subject (standing b) → ⊥) → get_or ns c 0 < length (offers i c (map standing below))

  undone-numbered : (b : Branching) (below : List Branching) (ns : List ℕ) → Rows i (b ∷ below) → length ns ≡ cart_count i → Others (b ∷ below) ns → Numbered (map standing below) (undone b ns)
  undone-numbered b below ns rows long others = (
    length-set ns (subject (standing b)) b.former ∙ long,
    λ c known. elim (cases_eq c (subject (standing b))) [
      | inl same ↦ subst (λ a. get_or (undone b ns) a 0 < length (offers i a (map standing below))) (sym same) (rw (get_or-set_same ns (subject (standing b)) b.former 0 (omega arith)) rows.2)
      | inr apart ↦ rw (get_or-set_other ns (subject (standing b)) c b.former 0 apart) (others c known apart)
    ],
  )

  numbered_others : (trail : List Branching) (ns : List ℕ) → Numbered (map standing trail) ns → Others trail ns
  numbered_others [] ns h = tt
  numbered_others (b ∷ below) ns h = λ c known apart. rw (offers_same i c (standing b) (map standing below) (λ e. apart (sym e))) at (h.1 c known)

  left_branch : (trail : List Branching) (ns : List ℕ) {bans : List Constraint} {cs : List C} → Rows i trail → length ns ≡ cart_count i → Others trail ns → Left i trail ns bans cs → Branch i bans cs
  left_branch [] ns rows long others l = elim l [ ]
  left_branch (b ∷ below) ns rows long others (under_standing n from lt) =
      branch_under (standing b) (map standing below) (undone b ns) n (undone-numbered b below ns rows long others) lt
  left_branch (b ∷ below) ns rows long others (under_second n first lt) =
      branch_under b.second (map standing below) (undone b ns) n (undone-numbered b below ns rows long others) lt
  left_branch (b ∷ below) ns rows long others (deeper l) =
      let numbered = undone-numbered b below ns rows long others in
      left_branch below (undone b ns) rows.3 numbered.0 (numbered_others below (undone b ns) numbered) l

  root-numbered : (ns : List ℕ) → IsRoot i 0 ns → Numbered [] ns
  root-numbered ns r =
      let w = free_within i ns r in (
        length_within i (free_offers i) ns w ∙ length_free i,
        λ c known. (at_place (offers i c []) (get_or ns c 0) _ (free_picked i ns c (record { cost = i.kind.zero; item = [] }) w known)).0,
      )

  module _ (q : Search C) (inv : Inv i q) where
    held : (bans : List Constraint) (c : ℕ) → Holds i bans q c → get_or q.numbers c 0 < length (offers i c bans)
    held bans c h = (at_place (offers i c bans) (get_or q.numbers c 0) h.offer h.found).0

    waiting_others : (trail : List Branching) → Waiting i trail q → Others trail q.numbers
    waiting_others [] w = tt
    waiting_others (b ∷ below) w = λ c known apart. held (map standing below) c (w c known apart)

    open_others : Others q.trail q.numbers
    open_others =
        elim (phases q.phase) [
          | inl e ↦ waiting_others q.trail (wait i q.trail q (inv.settled e))
          | inr (inl e) ↦ waiting_others q.trail (inv.waiting e)
          | inr (inr e) ↦ subst (λ trail. Others trail q.numbers) (sym (inv.over e).0) tt
        ]

    pub open_branch : (bans : List Constraint) (cs : List C) → Open i q bans cs → Branch i bans cs
    open_branch bans cs (here e) =
        let bans = map standing q.trail in
        rw (costs_are i bans q inv.sized (inv.settled e)) (costs_branch bans q.numbers (inv.sized.0, λ c known. held bans c (inv.settled e c known)))
    open_branch bans cs (root ns r n) = costs_branch [] ns (root-numbered ns r)
    open_branch bans cs (left l) = left_branch q.trail q.numbers inv.rows inv.sized.0 open_others l
