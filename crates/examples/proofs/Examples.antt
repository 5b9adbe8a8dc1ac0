-- Each example's instance is sound, so that the guarantee applies to it, and its search is computed.
-- Assumes nothing.
use mathlib.Core.Path.{◌≡◌, refl}
use Prim.Native.Nat.{ℕ}
use borrow.Author.Rules.{rules}
use Rattle.rules.specs.Kinds.{Laws}
use Rattle.rules.specs.Instances.{Instance, Sound}
use Rattle.rules.specs.Search.{Limits}
use Rattle.rules.proofs.Guarantee.{guaranteed}
use Rattle.costs.specs.TotalLaws.{total_laws}
use Rattle.costs.specs.WorstLaws.{worst_laws}
use Rattle.costs.specs.PairLaws.{pair_laws}
use Rattle.examples.specs.Worked.{Cost, cost_kind, two_carts, already_there, changing_ends, round_a_ring, in_the_way, Outcome, outcome, Worked, WorkedExamples}

cost_laws : Laws cost_kind
cost_laws = pair_laws total_laws worst_laws

two_carts_sound : (horizon : ℕ) → Sound (two_carts horizon)
two_carts_sound horizon = search (rules, cost_laws)

already_there_sound : Sound already_there
already_there_sound = search (rules, cost_laws)

changing_ends_sound : Sound changing_ends
changing_ends_sound = search (rules, cost_laws)

round_a_ring_sound : Sound round_a_ring
round_a_ring_sound = search (rules, cost_laws)

in_the_way_sound : Sound in_the_way
in_the_way_sound = search (rules, cost_laws)

worked : (i : Instance Cost) (r : Limits) (o : Outcome) → Sound i → outcome i r ≡ o → Worked i r o
worked i r o sound e = record { so_ends = e; sound = sound; applies = guaranteed i sound r }

pub worked_examples : WorkedExamples
worked_examples =
    record {
      two_plans = worked _ _ _ (two_carts_sound 2) refl;
      no_trail_row = worked _ _ _ (two_carts_sound 2) refl;
      one_list_row = worked _ _ _ (two_carts_sound 2) refl;
      five_label_rows = worked _ _ _ (two_carts_sound 2) refl;
      four_label_rows = worked _ _ _ (two_carts_sound 2) refl;
      one_tick = worked _ _ _ (two_carts_sound 1) refl;
      standing = worked _ _ _ already_there_sound refl;
      exchange = worked _ _ _ changing_ends_sound refl;
      ring = worked _ _ _ round_a_ring_sound refl;
      blocked = worked _ _ _ in_the_way_sound refl;
    }
