-- The rules for labels and offers leave no choice: two tables and lists that follow them are the same.
-- Assumes nothing.
use Rattle.std.proofs.Common.{◌≡◌, ℕ, zero, suc, ◌-◌, ◌≤◌, cond, leb, List, [], ◌∷◌, map, reverse, length, get_or, sym, ap, ◌∙◌, subst, inl, inr, arith}
use lib.ListN.{get_elem?}
use Rattle.std.proofs.lemmas.List.{ext_get_or, reverse-reverse, length-reverse}
use Rattle.rules.specs.Kinds.{Laws}
use Rattle.rules.specs.Instances.{Instance, moves_of, start_of, goal_of}
use Rattle.rules.specs.Walks.{Constraint, Walk, place_at, Beginning}
use Rattle.rules.specs.Offers.{Label, Offered, Serves}
use Rattle.rules.specs.Serving.{Ending, NotLater, label_of, Reached, EndsBy, Serving, ServingWalk, Choices}
use Rattle.rules.proofs.Firsts.{same_at}
use Rattle.rules.proofs.Labels.{onward_by}
use Rattle.rules.proofs.SameFronts.{front_same, entries_same, one_of_a_cost}

-- endings neither of which is later are the same
same_ending : (e f : Ending) → NotLater e f → NotLater f e → e ≡ f
same_ending e f (inl a) (inl b) = absurd (omega arith)
same_ending e f (inl a) (inr (b, q)) = absurd (omega arith)
same_ending e f (inr (a, p)) (inl b) = absurd (omega arith)
same_ending e f (inr (a, inl p)) (inr (b, inl q)) = absurd (omega arith)
same_ending e f (inr (a, inl p)) (inr (b, inr (q, r))) = absurd (omega arith)
same_ending e f (inr (a, inr (p, o))) (inr (b, inl q)) = absurd (omega arith)
same_ending e f (inr (a, inr (p, o))) (inr (b, inr (q, r))) = let same : e.label ≡ f.label = omega arith in λ j. record { place = a j; move = p j; label = same j }

module _ {C : Type 0} (i : Instance C) (laws : Laws i.kind) (cart : ℕ) (bans : List Constraint) where
  module _ (labels others : ℕ → ℕ → List (Label C)) where
    ends_too : {t p : ℕ} → ((u : ℕ) → labels t u ≡ others t u) → (b : Beginning i cart (suc t) p) (e : Ending) → EndsBy i cart bans labels b e → EndsBy i cart bans others b e
    ends_too same b e ends =
        record {
          former = ends.former;
          taken = ends.taken;
          kept_there = rw (← same e.place) ends.kept_there;
          move_there = ends.move_there;
          extends = ends.extends;
        }

  -- beginnings that end alike are the same
  ends_same : {t p : ℕ} (labels : ℕ → ℕ → List (Label C)) (b d : Beginning i cart (suc t) p) (e : Ending) → EndsBy i cart bans labels b e → EndsBy i cart bans labels d e →
      label_of i b ≡ label_of i d
  ends_same {t} labels b d e h k =
      let former : label_of i h.former ≡ label_of i k.former = same_at (labels t e.place) e.label (label_of i h.former) (label_of i k.former) h.kept_there k.kept_there in
      let taken : h.taken ≡ k.taken = same_at (moves_of i e.place) e.move h.taken k.taken h.move_there k.move_there in
      h.extends ∙ (λ j. onward_by i cart bans (taken j) (former j)) ∙ sym k.extends

  serving_same : (labels others : ℕ → ℕ → List (Label C)) (t p : ℕ) → ((u : ℕ) → labels t u ≡ others t u) → (l m : Label C) →
      Serving i cart bans labels t p l → Serving i cart bans others t p m → l.cost ≡ m.cost → l ≡ m
  serving_same labels others t p same l m h k cost =
      let cost_h = ap (λ x. x.cost) h.shown in
      let cost_k = ap (λ x. x.cost) k.shown in
      let k_ends = ends_too others labels (λ u. sym (same u)) k.beginning k.ending k.ends in
      let before = h.first k.beginning k.ending k.obeying (sym cost_k ∙ sym cost) k_ends in
      let after = k.first h.beginning h.ending h.obeying (sym cost_h ∙ cost) (ends_too labels others same h.beginning h.ending h.ends) in
      let alike = same_ending h.ending k.ending before after in
      h.shown ∙ ends_same labels h.beginning k.beginning k.ending (subst (EndsBy i cart bans labels h.beginning) alike h.ends) k_ends ∙ sym k.shown

  -- walks that arrive at one tick by one trace give the same places
  same_items : (o p : Label C) (v w : Walk i cart) → Serves i bans o v → Serves i bans p w → v.arrival ≡ w.arrival → v.trace ≡ w.trace → o.item ≡ p.item
  same_items o p v w h k arrival trace =
      let places : (t : ℕ) → place_at i v t ≡ place_at i w t = λ t j. cond (leb t (arrival j)) (get_or (trace j) (arrival j - t) 0) (goal_of i cart) in
      let long_o : length (reverse o.item) ≡ suc i.horizon = length-reverse o.item ∙ h.long in
      let long_p : length (reverse p.item) ≡ suc i.horizon = length-reverse p.item ∙ k.long in
      let back : reverse o.item ≡ reverse p.item = ext_get_or 0 (reverse o.item) (reverse p.item) (long_o ∙ sym long_p)
      (λ t u. let in_time : t ≤ i.horizon = omega arith in h.same_places t in_time ∙ places t ∙ sym (k.same_places t in_time)) in
      sym (reverse-reverse o.item) ∙ ap reverse back ∙ reverse-reverse p.item

  module _ (labels others : ℕ → ℕ → List (Label C)) (os ps : List (Label C)) (c : Choices i cart bans labels os) (d : Choices i cart bans others ps) where
    same_costs : (t p : ℕ) → map (λ l. l.cost) (labels t p) ≡ map (λ l. l.cost) (others t p)
    same_costs t p = front_same i.kind laws (Reached i cart bans t p) (map (λ l. l.cost) (labels t p)) (map (λ l. l.cost) (others t p)) (c.kept_exact t p) (d.kept_exact t p)

    pub same_labels : (t p : ℕ) → labels t p ≡ others t p
    same_labels zero p =
        let AtStart : Label C → Type 0 = λ l. (p ≡ start_of i cart) × (l ≡ record { cost = i.kind.zero; item = start_of i cart ∷ [] }) in
        entries_same AtStart AtStart (λ l m h k _. h.1 ∙ sym k.1) (labels 0 p) (others 0 p) (c.kept_at_start p) (d.kept_at_start p) (same_costs 0 p)
    same_labels (suc t) p =
        entries_same (Serving i cart bans labels t p) (Serving i cart bans others t p) (serving_same labels others t p (same_labels t))
        (labels (suc t) p) (others (suc t) p) (c.kept_serving t p) (d.kept_serving t p) (same_costs (suc t) p)

    offer_same : (o p : Label C) → ServingWalk i cart bans labels o → ServingWalk i cart bans others p → o.cost ≡ p.cost → o ≡ p
    offer_same o p h k cost =
        let v = h.walk in
        let w = k.walk in
        let goal = goal_of i cart in
        let early = h.earliest w k.serves.permitted (k.serves.same_cost ∙ sym cost) in
        let late = k.earliest v h.serves.permitted (h.serves.same_cost ∙ cost) in
        let arrival : v.arrival ≡ w.arrival = omega arith in
        let there = ap (λ ls. get_elem? ls k.number) (same_labels v.arrival goal ∙ ap (λ a. others a goal) arrival) ∙ k.kept_there in
        let one = one_of_a_cost i.kind laws (labels v.arrival goal) (c.kept_exact v.arrival goal).ordered h.number k.number
        (record { cost = v.cost; item = v.trace }) (record { cost = w.cost; item = w.trace }) h.kept_there there (h.serves.same_cost ∙ cost ∙ sym k.serves.same_cost) in
        let items = same_items o p v w h.serves k.serves arrival (ap (λ x. x.item) one) in
        λ j. record { cost = cost j; item = items j }

    pub same_offers : os ≡ ps
    same_offers =
        entries_same (ServingWalk i cart bans labels) (ServingWalk i cart bans others) offer_same os ps c.offers_serving d.offers_serving
        (front_same i.kind laws (Offered i cart bans) (map (λ o. o.cost) os) (map (λ o. o.cost) ps) c.offers_exact d.offers_exact)
