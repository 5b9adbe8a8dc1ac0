-- What a query asks, in the words of the rules: one cart of an instance, under some constraints.
-- Assumes nothing.
use Rattle.std.specs.Prelude.{ℕ, Bool, List, map}
use Rattle.rules.specs.Kinds.{Kind}
use Rattle.rules.specs.Instances.{Instance, Move, places}
use Rattle.rules.specs.Walks.{Constraint}
use Rattle.rules.specs.Offers.{Label, may_be, may_go, candidates, kept_row, label_count, offers}
use Rattle.carts.specs.Carts.{cart_of}
use Rattle.labels.specs.declared.query.Query.{Query}

pub record Asked (C : Type 0) : Type 0 where
  pub inst : Instance C
  pub cart : ℕ
  pub constraints : List Constraint

abbrev pub asked : {F C B : Type 0} → (F → List (List Move)) → Kind C → (B → Constraint) → Query F C B → Asked C
asked moves k constraint q =
    record {
      inst = record { kind = k; moves = moves q.floor.now; tariff = q.tariff.now; carts = map cart_of q.carts.now; horizon = q.horizon };
      cart = q.cart;
      constraints = map constraint q.constraints.now;
    }

module _ {C : Type 0} (a : Asked C) where
  -- the labels kept at tick t, place by place
  abbrev pub row_of : ℕ → List (List (Label C))
  row_of t = kept_row a.inst a.cart a.constraints t

  abbrev pub place_count : ℕ
  place_count = places a.inst

  -- the cart may be at p at tick t; it may go from u to p leaving at tick t
  abbrev pub may_be_at : ℕ → ℕ → Bool
  may_be_at p t = may_be a.inst a.cart a.constraints p t

  abbrev pub may_take : ℕ → ℕ → ℕ → Bool
  may_take u p t = may_go a.inst a.cart a.constraints u p t

  -- what the labels of tick t bring to p
  abbrev pub reaching : ℕ → ℕ → List (Label C)
  reaching t p = candidates a.inst a.cart a.constraints t (row_of t) p

  -- how many labels the cart has
  abbrev pub label_total : ℕ
  label_total = label_count a.inst a.cart a.constraints

  -- what it has on offer, each with the places of its walk from the horizon back
  abbrev pub offers_of : List (Label C)
  offers_of = offers a.inst a.cart a.constraints
