-- Where the labels that arrive stand in a cart's tables.
-- Assumes nothing.
use Rattle.std.specs.Prelude.{◌≡◌, ℕ, ◌-◌, ◌≤◌, nat_le}
use Rattle.rules.specs.Instances.{goal_of}
use Rattle.rules.specs.Offers.{may_stand}
use Rattle.labels.specs.declared.landing.Landing.{Landing}
use Rattle.labels.specs.Queries.{Asked, place_count}

module _ {C : Type 0} (a : Asked C) where
  -- the cart may stand at its goal to the horizon exactly from tick r on
  abbrev pub StandsFrom : ℕ → Type 0
  StandsFrom r = (t : ℕ) → t ≤ a.inst.horizon → may_stand a.inst a.cart a.constraints t (a.inst.horizon - t) ≡ nat_le r t

  pub record LandingOf (l : Landing) : Type 0 where
    pub first : StandsFrom l.first
    pub horizon : l.horizon ≡ a.inst.horizon
    pub goal : l.goal ≡ goal_of a.inst a.cart
    pub places : l.places ≡ place_count a
