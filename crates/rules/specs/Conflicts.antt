-- Conflicts of some walks, the order in which they count, and what the first of them is.
-- Assumes nothing.
use Rattle.std.specs.Prelude.{◌≡◌, ℕ, suc, ◌<◌, ◌↔◌, List, length, ◌≢◌}
use Rattle.std.proofs.Math.Option.{none, some}
use Rattle.rules.specs.Instances.{Instance, cart_count}
use Rattle.rules.specs.Walks.{Constraint, vertex, edge}
use Rattle.rules.specs.Plans.{WholePlan, Clear, PlacesAre, Conflict, at, first_conflict}

-- two carts are at one place, or change places
pub data Manner : Type 0 where
  meets crosses : Manner

-- which conflict: the tick reached, its manner, and the two carts
pub record Occurrence : Type 0 where
  pub tick : ℕ
  pub manner : Manner
  pub lower : ℕ
  pub higher : ℕ

-- the order of conflicts: the lowest tick reached, then meeting before crossing, then the lowest pair of carts
pub data Earlier (o p : Occurrence) : Type 0 where
  by_tick : o.tick < p.tick → Earlier o p
  by_manner : o.tick ≡ p.tick → o.manner ≡ meets → p.manner ≡ crosses → Earlier o p
  by_lower : o.tick ≡ p.tick → o.manner ≡ p.manner → o.lower < p.lower → Earlier o p
  by_higher : o.tick ≡ p.tick → o.manner ≡ p.manner → o.lower ≡ p.lower → o.higher < p.higher → Earlier o p

module _ (walks : List (List ℕ)) (horizon : ℕ) where
  -- the walks have this conflict, at a tick from 1 to the horizon, and it gives these two constraints, the lower cart's first:
  -- both carts are at p at tick t + 1; or, leaving at tick t, one goes from u to v and the other from v to u
  pub data Occurs : Occurrence → Constraint → Constraint → Type 0 where
    meet : (t a b p : ℕ) → t < horizon → a < b → b < length walks → at walks a (suc t) ≡ p → at walks b (suc t) ≡ p →
        Occurs (record { tick = suc t; manner = meets; lower = a; higher = b }) (vertex a p (suc t)) (vertex b p (suc t))
    cross : (t a b u v : ℕ) → t < horizon → a < b → b < length walks → (u ≢ v) →
        at walks a t ≡ u → at walks a (suc t) ≡ v → at walks b t ≡ v → at walks b (suc t) ≡ u →
        Occurs (record { tick = suc t; manner = crosses; lower = a; higher = b }) (edge a u v t) (edge b v u t)

  abbrev pub NoConflict : Type 0
  NoConflict = (o : Occurrence) (x y : Constraint) → Occurs o x y → ⊥

  -- c is what the first conflict gives: it occurs, and none occurs before it
  pub record First (c : Conflict) : Type 0 where
    pub which : Occurrence
    pub occurs : Occurs which c.0 c.1
    pub none_earlier : (o : Occurrence) (x y : Constraint) → Occurs o x y → Earlier o which → ⊥

-- the first conflict is found, whatever the walks, and none exactly where there is none
pub record FirstConflictRight : Type 0 where
  pub found : (walks : List (List ℕ)) (horizon : ℕ) (c : Conflict) → (first_conflict walks 0 horizon ≡ some c) ↔ First walks horizon c
  pub absent : (walks : List (List ℕ)) (horizon : ℕ) → (first_conflict walks 0 horizon ≡ none) ↔ NoConflict walks horizon

-- a plan is clear exactly when its places, cart by cart, have no conflict
abbrev pub ClearRight : Type 0 → Type 0
ClearRight C =
    (i : Instance C) (p : WholePlan i) (walks : List (List ℕ)) → length walks ≡ cart_count i → PlacesAre i walks p →
    Clear i p ↔ NoConflict walks i.horizon
