-- Worked examples, each a theorem of the rules: how its search ends, and that the guarantee applies to it.
-- Assumes nothing.
use Rattle.std.specs.Prelude.{◌≡◌, List, [], ◌∷◌, map, ℕ, ◌<◌, ◌^◌}
use Rattle.std.proofs.Common.{arith}
use Rattle.rules.specs.Kinds.{Kind}
use Rattle.rules.specs.Instances.{Instance, Move, Cart, Sound}
use Rattle.rules.specs.Search.{Line, Limits, Ending, budget_spent, search_done, stop, labels_exceeded, trail_full, list_full, Advance, going, over, advance, made}
use Rattle.rules.specs.Guarantee.{Guarantee}
use Rattle.costs.specs.declared.pair.Pair.{Pair}
use Rattle.costs.specs.declared.total.Total.{Total}
use Rattle.costs.specs.declared.worst.Worst.{Worst}
use Rattle.costs.specs.Totals.{total_kind}
use Rattle.costs.specs.Worsts.{worst_kind}
use Rattle.costs.specs.Pairs.{pair_kind}

abbrev pub Cost : Type 0
Cost = Pair Total Worst

abbrev pub cost_kind : Kind Cost
cost_kind = pair_kind total_kind worst_kind

abbrev pub cost : (total worst : ℕ) → total < 2 ^ 32 → worst < 2 ^ 16 → Cost
cost total worst t w = record { first = record { value = total; fits = t }; second = record { value = worst; fits = w } }

-- a tariff line of Total 1 and Worst 5, and one of 1 and 1
abbrev pub rough : Cost
rough = cost 1 5 (omega arith) (omega arith)

abbrev pub smooth : Cost
smooth = cost 1 1 (omega arith) (omega arith)

abbrev pub move : (to line : ℕ) → Move
move to line = record { to = to; line = line }

abbrev pub cart : (start goal : ℕ) → Cart
cart start goal = record { start = start; goal = goal }

abbrev pub site : ℕ → List (List Move) → List Cost → List Cart → Instance Cost
site horizon moves tariff carts = record { kind = cost_kind; moves = moves; tariff = tariff; carts = carts; horizon = horizon }

-- a cart from 0 to 2, by one rough lane or by two smooth ones through place 1, where another cart stands that can step aside to 3 and back
abbrev pub two_carts : ℕ → Instance Cost
two_carts horizon =
    site horizon ((move 2 0 ∷ move 1 1 ∷ []) ∷ (move 2 1 ∷ move 3 1 ∷ []) ∷ [] ∷ (move 1 1 ∷ []) ∷ []) (rough ∷ smooth ∷ []) (cart 0 2 ∷ cart 1 1 ∷ [])

-- one cart, whose start is its goal
abbrev pub already_there : Instance Cost
already_there = site 2 ([] ∷ []) (smooth ∷ []) (cart 0 0 ∷ [])

-- two carts that change ends on a two-way lane
abbrev pub changing_ends : Instance Cost
changing_ends = site 1 ((move 1 0 ∷ []) ∷ (move 0 0 ∷ []) ∷ []) (smooth ∷ []) (cart 0 1 ∷ cart 1 0 ∷ [])

-- three carts on a ring of three places, each to the next
abbrev pub round_a_ring : Instance Cost
round_a_ring = site 1 ((move 1 0 ∷ []) ∷ (move 2 0 ∷ []) ∷ (move 0 0 ∷ []) ∷ []) (smooth ∷ []) (cart 0 1 ∷ cart 1 2 ∷ cart 2 0 ∷ [])

-- a cart stands at the one place that another has to go through
abbrev pub in_the_way : Instance Cost
in_the_way = site 2 ((move 1 0 ∷ []) ∷ (move 2 0 ∷ []) ∷ [] ∷ []) (smooth ∷ []) (cart 1 1 ∷ cart 0 2 ∷ [])

abbrev pub room : (labels trail list : ℕ) → Limits
room labels trail list = record { labels = labels; trail = trail; list = list }

-- room that none of them fills
abbrev pub roomy : Limits
roomy = room 2048 512 32

-- a listed plan as it is read: its Total, its Worst, and each cart's places from tick 0 to the horizon
abbrev pub Listed : Type 0
Listed = ℕ × ℕ × List (List ℕ)

abbrev pub read : Line Cost → Listed
read l = (l.cost.first.value, l.cost.second.value, l.item)

-- how a search ends: the turns, the branches examined among them, why it ended, and the plans listed
pub record Outcome : Type 0 where
  pub turns : ℕ
  pub examined : ℕ
  pub why : Ending
  pub plans : List Listed

abbrev pub ends : ℕ → ℕ → Ending → List Listed → Outcome
ends turns examined why plans = record { turns = turns; examined = examined; why = why; plans = plans }

abbrev pub outcome_of : Advance Cost → Outcome
outcome_of (going n e q) = ends n e budget_spent (map read q.listed)
outcome_of (over n e w q) = ends n e w (map read q.listed)

-- what a budget of 1,000 turns comes to
abbrev pub outcome : Instance Cost → Limits → Outcome
outcome i r = outcome_of (advance i r 1000 (made i))

pub record Worked (i : Instance Cost) (r : Limits) (o : Outcome) : Type 0 where
  pub so_ends : outcome i r ≡ o
  pub sound : Sound i
  pub applies : Guarantee i r

abbrev pub by_rough_lane : Listed
by_rough_lane = (1, 5, (0 ∷ 2 ∷ 2 ∷ []) ∷ (1 ∷ 1 ∷ 1 ∷ []) ∷ [])

abbrev pub round_about : Listed
round_about = (4, 1, (0 ∷ 1 ∷ 2 ∷ []) ∷ (1 ∷ 3 ∷ 1 ∷ []) ∷ [])

pub record WorkedExamples : Type 0 where
  pub two_plans : Worked (two_carts 2) roomy (ends 11 4 search_done (by_rough_lane ∷ round_about ∷ []))
  pub no_trail_row : Worked (two_carts 2) (room 2048 0 32) (ends 3 1 (stop trail_full) (by_rough_lane ∷ []))
  pub one_list_row : Worked (two_carts 2) (room 2048 512 1) (ends 8 3 (stop list_full) (by_rough_lane ∷ []))
  pub five_label_rows : Worked (two_carts 2) (room 5 512 32) (ends 11 4 search_done (by_rough_lane ∷ round_about ∷ []))
  pub four_label_rows : Worked (two_carts 2) (room 4 512 32) (ends 0 0 (stop labels_exceeded) [])
  pub one_tick : Worked (two_carts 1) roomy (ends 3 1 search_done ((1, 5, (0 ∷ 2 ∷ []) ∷ (1 ∷ 1 ∷ []) ∷ []) ∷ []))
  pub standing : Worked already_there roomy (ends 3 1 search_done ((0, 0, (0 ∷ 0 ∷ 0 ∷ []) ∷ []) ∷ []))
  pub exchange : Worked changing_ends roomy (ends 5 1 search_done [])
  pub ring : Worked round_a_ring roomy (ends 3 1 search_done ((3, 1, (0 ∷ 1 ∷ []) ∷ (1 ∷ 2 ∷ []) ∷ (2 ∷ 0 ∷ []) ∷ []) ∷ []))
  pub blocked : Worked in_the_way roomy (ends 5 1 search_done [])
