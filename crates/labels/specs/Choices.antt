-- The labels that arrive, and how offers are chosen among them.
-- Assumes nothing.
use Rattle.std.specs.Prelude.{◌≡◌, ◌-◌, List, ◌++◌, replicate, Option}
use Rattle.std.specs.List.{filter}
use Rattle.std.specs.Option.{option_map}
use Rattle.rules.specs.Kinds.{Kind}
use Rattle.rules.specs.Fronts.{front_of}
use Rattle.rules.specs.Offers.{Label}
use Rattle.labels.specs.declared.arrivals.Arrivals.{Arrivals}
use Rattle.labels.specs.declared.offer.Offer.{Offer}
use Rattle.labels.specs.declared.offers.Offers.{Offers}
use Rattle.labels.specs.Landings.{landed}
use Rattle.labels.specs.Picks.{comes_after, picked, out_of_turn}
use Rattle.labels.specs.Rows.{shown, trace_at}

module _ {C : Type 0} where
  -- the labels that arrive, after standing to the horizon
  abbrev pub arrived : Arrivals C → List (Label C)
  arrived x = landed x.starts.now x.landing (shown x.rows.now)

  -- what an offer is: its label, and then standing at the goal
  abbrev pub shown_offer : Offer C → Label C
  shown_offer o = let x = o.arrivals.now in record { cost = o.cost; item = replicate (x.landing.horizon - o.tick) x.landing.goal ++ trace_at (shown x.rows.now) o.label }

  abbrev pub shown_lead : Option (Offer C) → Option (Label C)
  shown_lead o = option_map shown_offer o

module _ {C : Type 0} (k : Kind C) where
  -- the best so far, once these labels have come
  abbrev pub Chooses : Arrivals C → Option C → Option (Offer C) → List (Label C) → Option (Offer C) → Type 0
  Chooses x last best ls r = shown_lead r ≡ picked k (out_of_turn k last (arrived x)) (shown_lead best) ls

  -- the offers after the last one taken
  abbrev pub offers_left : Offers C → List (Label C)
  offers_left s = filter (λ o. comes_after k s.last o.cost) (front_of k (arrived s.arrivals.now))
