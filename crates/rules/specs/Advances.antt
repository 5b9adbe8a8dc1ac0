-- What an advance does, as a law of runs of turns: how many it takes, what they examine, where they lead and why it ends.
-- Assumes nothing.
use Rattle.std.specs.Prelude.{◌≡◌, ℕ, suc, ◌+◌, ◌*◌, ◌<◌, ◌≤◌, false, ◌↔◌, List, [], ◌∷◌, ◌≢◌}
use Rattle.rules.specs.Instances.{Instance, Sound, places, cart_count}
use Rattle.rules.specs.Search.{Phase, at_branch, seeking, done, Search, Limits, offer_missing, trail_full, stopped, went, turn, made, is_done, Ending, budget_spent, search_done, stop, over, advance}
use Rattle.rules.specs.Guarantee.{Reached, lanes}

-- a turn at a branch examines that branch, and no other turn examines any
abbrev pub examined_in : Phase → ℕ
examined_in at_branch = 1
examined_in seeking = 0
examined_in done = 0

module _ {C : Type 0} (i : Instance C) (room : Limits) where
  -- n turns, none of a search that is done, lead from q to r and examine e branches among them
  pub data Run (q : Search C) : ℕ → ℕ → Search C → Type 0 where
    no_turn : Run q 0 0 q
    then_turn : {n e x : ℕ} {r s : Search C} → Run q n e r → is_done r.phase ≡ false → turn i room r ≡ went x s → Run q (suc n) (e + examined_in r.phase) s

  -- why an advance ends at r after n turns: it is done; else the budget is spent; else the next turn stops
  abbrev pub EndsBy : ℕ → ℕ → Search C → Ending → Type 0
  EndsBy budget n r search_done = r.phase ≡ done
  EndsBy budget n r budget_spent = (is_done r.phase ≡ false) × (n ≡ budget)
  EndsBy budget n r (stop s) = (is_done r.phase ≡ false) × (n < budget) × (turn i room r ≡ stopped s)

  -- n turns within the budget, e branches examined, why it ended, and where it stands: before the turn that stops, if one does
  pub record Advanced (budget : ℕ) (q : Search C) (n e : ℕ) (why : Ending) (r : Search C) : Type 0 where
    pub run : Run q n e r
    pub within : n ≤ budget
    pub ends : EndsBy budget n r why

  -- advances with these budgets, the latest first, lead from q to r and answer n turns in all
  pub data InAll (q : Search C) : List ℕ → ℕ → Search C → Type 0 where
    no_advance : InAll q [] 0 q
    then_advance : {budgets : List ℕ} {m : ℕ} {r s : Search C} (budget n e : ℕ) (why : Ending) →
        InAll q budgets m r → advance i room budget r ≡ over n e why s → InAll q (budget ∷ budgets) (m + n) s

  pub record AdvanceRight : Type 0 where
    -- an advance ends
    pub answers : (budget : ℕ) (q : Search C) → (n e : ℕ) × (why : Ending) × (r : Search C) × (advance i room budget q ≡ over n e why r)
    -- and answers exactly what holds of the turns
    pub exact : (budget n e : ℕ) (why : Ending) (q r : Search C) → (advance i room budget q ≡ over n e why r) ↔ Advanced budget q n e why r
    -- done is told before a spent budget
    pub done_told : (budget n e : ℕ) (why : Ending) (q r : Search C) → advance i room budget q ≡ over n e why r → r.phase ≡ done → why ≡ search_done
    -- the turns of a search that was reached count on
    pub reached : (budget m n e : ℕ) (why : Ending) (q r : Search C) → Reached i room m q → advance i room budget q ≡ over n e why r → Reached i room (m + n) r
    -- where a budget was spent, another one goes on as if both had been one
    pub resumed : (first second m n e f : ℕ) (why : Ending) (q r s : Search C) → advance i room first q ≡ over m e budget_spent r → advance i room second r ≡ over n f why s →
        advance i room (first + second) q ≡ over (m + n) (e + f) why s
    -- where no budget was spent, a larger one changes nothing
    pub larger : (budget more n e : ℕ) (why : Ending) (q r : Search C) → (why ≢ budget_spent) → advance i room budget q ≡ over n e why r → budget ≤ more →
        advance i room more q ≡ over n e why r
    -- whatever the budgets, the turns answered lead where so many turns do; and one number bounds them all
    pub in_all : (budgets : List ℕ) (n : ℕ) (q : Search C) → InAll (made i) budgets n q → Reached i room n q
    pub bounded : Sound i → (most : ℕ) × ((budgets : List ℕ) (n : ℕ) (q : Search C) → InAll (made i) budgets n q → n ≤ most)
    -- a search that was reached never stops for a missing offer, and never for the trail where it has a row for each cart, tick, and place or lane
    pub no_offer_missing : Sound i → (budget m n e : ℕ) (q r : Search C) → Reached i room m q → advance i room budget q ≢ over n e (stop offer_missing) r
    pub trail_suffices : Sound i → cart_count i * i.horizon * (places i + lanes 0 i.moves) ≤ room.trail →
        (budget m n e : ℕ) (q r : Search C) → Reached i room m q → advance i room budget q ≢ over n e (stop trail_full) r

-- every instance, sound or not, whatever room its tables give
abbrev pub AdvancesRight : Type 0 → Type 0
AdvancesRight C = (i : Instance C) (room : Limits) → AdvanceRight i room
