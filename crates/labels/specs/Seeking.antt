-- Which constraints a cart meets at a tick.
-- Assumes nothing.
use Rattle.std.specs.Prelude.{ℕ, Bool, false, ◌&&◌, ◌==◌}
use Rattle.rules.specs.Walks.{Constraint, vertex, edge, any_of}
use Rattle.labels.specs.Queries.{Asked}

-- a constraint of the cart at the tick
abbrev pub names : ℕ → ℕ → Constraint → Bool
names c t (vertex c' p' t') = c == c' && t == t'
names c t (edge c' u' v' t') = c == c' && t == t'

-- a constraint on the cart's moves to a place, leaving at the tick
abbrev pub leads_to : ℕ → ℕ → ℕ → Constraint → Bool
leads_to c v t (vertex c' p' t') = false
leads_to c v t (edge c' u' v' t') = c == c' && v == v' && t == t'

module _ {C : Type 0} (a : Asked C) where
  -- some constraint is on the cart at tick t
  abbrev pub busy_at : ℕ → Bool
  busy_at t = any_of (names a.cart t) a.constraints

  -- some constraint is on the cart's moves to p, leaving at tick t
  abbrev pub barred_to : ℕ → ℕ → Bool
  barred_to p t = any_of (leads_to a.cart p t) a.constraints
