-- What the offers of a cart are, in the subject's terms.
-- Assumes nothing.
use Rattle.std.specs.Prelude.{◌≡◌, ℕ, suc, ◌<◌, ◌≤◌, List, [], map, reverse, length, slice_index}
use Rattle.std.specs.List.{AllByRecursion}
use Rattle.rules.specs.Fronts.{Front}
use Rattle.rules.specs.Instances.{Instance, cart_count}
use Rattle.rules.specs.Walks.{Walk, place_at}
use Rattle.rules.specs.Offers.{Label, offers}

module _ {C : Type 0} (i : Instance C) (cart : ℕ) where
  -- some walk of the cart has the cost
  abbrev pub WalkCost : C → Type 0
  WalkCost c = (w : Walk i cart) × (w.cost ≡ c)

  -- a walk that the offer has the cost and the places of, at each tick from 0 to the horizon
  pub record Shows (o : Label C) : Type 0 where
    pub walk : Walk i cart
    pub cost : walk.cost ≡ o.cost
    pub long : length (reverse o.item) ≡ suc i.horizon
    pub places : (t : ℕ) → t ≤ i.horizon → slice_index (reverse o.item) t ≡ place_at i walk t

  -- the offers have just the costs of the cart's walks that no walk of it undercuts, each once and in the kind's order, and each has a walk
  pub record RightOffers (os : List (Label C)) : Type 0 where
    pub costs : Front i.kind WalkCost (map (λ o. o.cost) os)
    pub walks : AllByRecursion Shows os

-- each cart's offers are right
abbrev pub AllRight : {C : Type 0} → Instance C → Type 0
AllRight i = (cart : ℕ) → cart < cart_count i → RightOffers i cart (offers i cart [])
