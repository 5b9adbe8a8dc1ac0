-- The lines of a page of offers.
-- Assumes nothing.
use Rattle.std.specs.Prelude.{ℕ, List, [], ◌++◌, reverse, length, codes, decimal}
use Rattle.std.specs.List.{range_with_len, flat_map}
use Rattle.rules.specs.Instances.{Instance, cart_count}
use Rattle.rules.specs.Offers.{Label, offers}
use Rattle.sites.specs.Records.{numbers_text}

-- a cart's number, and how many offers it has
abbrev pub heading_text : ℕ → ℕ → List ℕ
heading_text cart count = codes "OF " ++ (decimal cart ++ (codes " " ++ (decimal count ++ codes "\n")))

abbrev pub number_text : ℕ → List ℕ
number_text n = codes " " ++ decimal n

-- the places at ticks 0 to the horizon
abbrev pub places_text : List ℕ → List ℕ
places_text ps = codes "QP" ++ (numbers_text ps ++ codes "\n")

module _ {C : Type 0} (text : C → List ℕ) where
  abbrev pub cost_text : C → List ℕ
  cost_text c = codes "QC " ++ (text c ++ codes "\n")

  -- an offer: its cost, and the places of its walk, which an offer of the rules has from the horizon back
  abbrev pub offer_text : Label C → List ℕ
  offer_text o = cost_text o.cost ++ places_text (reverse o.item)

  abbrev pub cart_text : ℕ → List (Label C) → List ℕ
  cart_text cart os = heading_text cart (length os) ++ flat_map offer_text os

  -- each cart with its offers, as if it were alone
  abbrev pub page_text : Instance C → List ℕ
  page_text i = flat_map (λ cart. cart_text cart (offers i cart [])) (range_with_len 0 (cart_count i))
