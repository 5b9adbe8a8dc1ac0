-- What a chart that was blank says once it is drawn.
-- Assumes nothing.
use Rattle.std.proofs.Common.{◌≡◌, ℕ, ◌+◌, ◌*◌, ◌<◌, ◌≤◌, false, ◌||◌, List, length, get_or, replicate, ap, ◌∙◌, ⊎_elim, arith}
use Rattle.std.proofs.lemmas.List.{get_or-replicate, get_or_past, length-replicate}
use Rattle.std.proofs.lemmas.Bool.{cases_lt}
use Rattle.rules.specs.Instances.{Move}
use Rattle.rules.specs.Walks.{Constraint, forbids_place, forbids_move, any_of}
use Rattle.charts.specs.declared.chart.Chart.{Chart}
use Rattle.charts.specs.Charts.{Blank, Drawn, leaves}
use Rattle.charts.specs.TickSets.{has, no_ticks}

module _ (moves : List (List Move)) (constraints : List Constraint) (cart : ℕ) (was after : Chart) (drawn : Drawn moves constraints cart was after) (blank : Blank was) where
  pub drawn_shut : (t p : ℕ) → t ≤ 64 → p < length moves → get_or after.shut (t * length moves + p) false ≡ any_of (forbids_place cart p t) constraints
  drawn_shut t p low lt = drawn.shut t p low lt ∙ ap (λ b. b || any_of (forbids_place cart p t) constraints) (ap (λ l. get_or l (t * length moves + p) false) blank.shut ∙ none (t * length moves + p))
    where
      none : (i : ℕ) → get_or (replicate 8320 false) i false ≡ false
      none i = ⊎_elim (λ in_it. get_or-replicate 8320 i false false in_it) (λ past. get_or_past (replicate 8320 false) i false (omega (arith, length-replicate 8320 false))) (cases_lt i 8320)

  pub drawn_closed : (p e t : ℕ) → p < length moves → get_or after.index.begins p 0 ≤ e → e < get_or after.index.begins (p + 1) 0 → t ≤ 63 →
      has (get_or after.closed e no_ticks) t ≡ any_of (forbids_move cart (leaves after.index.moves e) p t) constraints
  drawn_closed p e t lt lo hi low = drawn.closed p e t lt lo hi low ∙ ap (λ b. b || any_of (forbids_move cart (leaves after.index.moves e) p t) constraints) (blank.closed e t)
