-- Drafts: which horizons and carts they take, and why they refuse the others.
-- Assumes nothing.
use Rattle.std.specs.Prelude.{◌≡◌, ℕ, ◌+◌, Bool, cond, ◌||◌, List, length, take, set, Some, None, Ok, Err, Option, Result, ◌==◌, nat_le, nat_lt}
use Rattle.std.specs.List.{list_any}
use Rattle.carts.specs.declared.cart.Cart.{Cart}
use Rattle.carts.specs.declared.draft.Draft.{Draft}
use Rattle.carts.specs.declared.draft_refusal.DraftRefusal.{DraftRefusal}
use Rattle.carts.specs.declared.draft_refusal.DraftRefusal.TheVariants.{BadHorizon, NoRow, NoPlace, StartTaken, GoalTaken}

abbrev pub draft_refusal_number : DraftRefusal → ℕ
draft_refusal_number BadHorizon = 1
draft_refusal_number NoRow = 2
draft_refusal_number NoPlace = 3
draft_refusal_number StartTaken = 4
draft_refusal_number GoalTaken = 5

-- why a draft with this horizon is not started
abbrev pub horizon_refusal : ℕ → Option DraftRefusal
horizon_refusal h = cond (nat_lt h 1 || nat_lt 64 h) (Some BadHorizon) None

abbrev pub Started : ℕ → Result Draft DraftRefusal → Type 0
Started h (Ok d) = (horizon_refusal h ≡ None) × (d.horizon ≡ h) × (d.carts ≡ 0)
Started h (Err e) = horizon_refusal h ≡ Some e

-- some cart has this place, as its start or as its goal
abbrev pub among : (Cart → ℕ) → ℕ → List Cart → Bool
among end place = list_any (λ c. end c == place)

abbrev pub start_among : ℕ → List Cart → Bool
start_among = among (λ c. c.start)

abbrev pub goal_among : ℕ → List Cart → Bool
goal_among = among (λ c. c.goal)

-- why a cart is not entered after others in a table of so many rows: the first check that fails
abbrev pub cart_refusal : List Cart → ℕ → ℕ → ℕ → Option DraftRefusal
cart_refusal entered rows start goal =
    cond (nat_le 6 (length entered) || nat_le rows (length entered)) (Some NoRow)
    (cond (nat_lt 127 start || nat_lt 127 goal) (Some NoPlace)
    (cond (start_among start entered) (Some StartTaken)
    (cond (goal_among goal entered) (Some GoalTaken) None)))

-- the cart that is to be entered after others, or why it is refused
abbrev pub Admitted : List Cart → ℕ → ℕ → ℕ → Result Cart DraftRefusal → Type 0
Admitted entered rows start goal (Ok cart) = (cart_refusal entered rows start goal ≡ None) × (cart ≡ record { start = start; goal = goal })
Admitted entered rows start goal (Err e) = cart_refusal entered rows start goal ≡ Some e

-- a cart was entered in its row and no other; or the draft came back, with all rows as they were
abbrev pub Entered : Draft → List Cart → ℕ → ℕ → List Cart → Result Draft (Draft × DraftRefusal) → Type 0
Entered d rows start goal after (Ok e) =
    (cart_refusal (take d.carts rows) (length rows) start goal ≡ None)
    × (e.horizon ≡ d.horizon)
    × (e.carts ≡ d.carts + 1)
    × (after ≡ set rows d.carts (record { start = start; goal = goal }))
Entered d rows start goal after (Err e) =
    (cart_refusal (take d.carts rows) (length rows) start goal ≡ Some e.1) × (e.0 ≡ d) × (after ≡ rows)
