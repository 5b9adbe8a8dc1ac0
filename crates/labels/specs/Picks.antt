-- The next of a front: the first in the kind's order of the entries that are not skipped, and among equal costs the earliest.
-- Assumes nothing.
use Rattle.std.specs.Prelude.{Bool, true, cond, not, ◌&&◌, ◌||◌, List, [], ◌∷◌, Some, None, Option}
use Rattle.std.specs.List.{list_any}
use Rattle.rules.specs.Kinds.{Kind}
use Rattle.rules.specs.Fronts.{Entry, covered}

-- a dominates b: it is at most b, and comes before it
abbrev pub undercuts : {C : Type 0} → Kind C → C → C → Bool
undercuts k a b = k.at_most a b && k.before a b

module _ {C B : Type 0} (k : Kind C) where
  -- the first of the two in the kind's order; among equal costs the one that was there
  abbrev pub sooner : Option (Entry C B) → Entry C B → Option (Entry C B)
  sooner None x = Some x
  sooner (Some b) x = cond (k.before x.cost b.cost) (Some x) (Some b)

  abbrev pub better : (C → Bool) → Option (Entry C B) → Entry C B → Option (Entry C B)
  better skip o x = cond (skip x.cost) o (sooner o x)

  abbrev pub picked : (C → Bool) → Option (Entry C B) → List (Entry C B) → Option (Entry C B)
  picked skip o [] = o
  picked skip o (x ∷ xs) = picked skip (better skip o x) xs

  -- some entry dominates c
  abbrev pub dominated : List (Entry C B) → C → Bool
  dominated xs c = list_any (λ x. undercuts k x.cost c) xs

  -- the cost of the last entry, and what was there where there is none
  abbrev pub last_cost : Option C → List (Entry C B) → Option C
  last_cost o [] = o
  last_cost o (e ∷ es) = last_cost (Some e.cost) es

-- c comes before the best cost so far
abbrev pub leads : {C : Type 0} → Kind C → Option C → C → Bool
leads k None c = true
leads k (Some b) c = k.before c b

-- c comes after the last cost taken
abbrev pub comes_after : {C : Type 0} → Kind C → Option C → C → Bool
comes_after k None c = true
comes_after k (Some b) c = k.before b c

-- c is passed over, once es have been selected: it does not come after the last cost, or they cover it
abbrev pub passed_over : {C B : Type 0} → Kind C → Option C → List (Entry C B) → C → Bool
passed_over k last es c = not (comes_after k last c) || covered k es c

-- c is no next member of the front of xs, once those up to the last have been taken
abbrev pub out_of_turn : {C B : Type 0} → Kind C → Option C → List (Entry C B) → C → Bool
out_of_turn k last xs c = not (comes_after k last c) || dominated k xs c
