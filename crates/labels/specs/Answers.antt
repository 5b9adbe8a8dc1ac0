-- What the calls answer: when they refuse, what they count and write, and what that promises.
-- Assumes nothing.
use Rattle.std.specs.Prelude.{◌≡◌, ℕ, suc, ◌<◌, ◌≤◌, cond, List, reverse, length, Some, None, Ok, Err, Option, Result, ◌==◌, nat_le, nat_lt, slice_index}
use Rattle.std.specs.Option.{option_or, option_map}
use Rattle.std.specs.List.{AllByRecursion, slice_get}
use Rattle.rules.specs.Fronts.{Front, front_of}
use Rattle.rules.specs.Instances.{Instance, places, cart_count, start_of, goal_of}
use Rattle.rules.specs.Walks.{Walk, place_at, Permitted}
use Rattle.rules.specs.Offers.{Label}
use Rattle.labels.specs.declared.arrivals.Arrivals.{Arrivals}
use Rattle.labels.specs.declared.refusal.LabelRefusal.{LabelRefusal}
use Rattle.labels.specs.declared.refusal.LabelRefusal.TheVariants.{WrongLength, HorizonTooLong, TooManyRows, NoSuchCart, StartOffFloor, GoalOffFloor, NoRowLeft}
use Rattle.labels.specs.declared.row.LabelRow.{LabelRow}
use Rattle.labels.specs.Arrivals.{LandingOf}
use Rattle.labels.specs.Choices.{arrived}
use Rattle.labels.specs.Queries.{Asked, place_count, label_total, offers_of}
use Rattle.labels.specs.Tables.{Hold, all_cells}

-- an answer, unless something hinders it
abbrev pub told : {X : Type 0} → Option LabelRefusal → X → Result X LabelRefusal
told None x = Ok x
told (Some e) x = Err e

module _ {C : Type 0} (a : Asked C) where
  -- why a query is refused before any label is counted, in the order of the checks
  abbrev pub refusal : ℕ → Option LabelRefusal
  refusal rows =
      cond (nat_lt 64 a.inst.horizon) (Some HorizonTooLong)
      (cond (nat_lt 65535 rows) (Some TooManyRows)
      (cond (nat_le (cart_count a.inst) a.cart) (Some NoSuchCart)
      (cond (nat_le (place_count a) (start_of a.inst a.cart)) (Some StartOffFloor)
      (cond (nat_le (place_count a) (goal_of a.inst a.cart)) (Some GoalOffFloor) None))))

  -- why a query has no answer: it is refused, or its labels exceed the rows
  abbrev pub hindrance : ℕ → Option LabelRefusal
  hindrance rows = option_or (refusal rows) (cond (nat_le (label_total a) rows) None (Some NoRowLeft))

  -- the same, where a walk is to be written
  abbrev pub walk_hindrance : ℕ → ℕ → Option LabelRefusal
  walk_hindrance rows long = cond (long == suc a.inst.horizon) (hindrance rows) (Some WrongLength)

  -- what is known once the labels are in the rows
  pub record Solved (rows : List (LabelRow C)) (starts : List ℕ) (n : ℕ) : Type 0 where
    pub few : length rows ≤ 65535
    pub ticks : a.inst.horizon ≤ 64
    pub known : a.cart < cart_count a.inst
    pub inside : goal_of a.inst a.cart < place_count a
    pub count : n ≡ label_total a
    pub held : Hold rows starts (all_cells a) n

  -- the labels that arrive are the cart's
  pub record ArrivalsOf (x : Arrivals C) : Type 0 where
    pub at : LandingOf a x.landing
    pub offers : front_of a.inst.kind (arrived x) ≡ offers_of a

  abbrev pub LaidOut : ℕ → List (LabelRow C) → List ℕ → Result ℕ LabelRefusal → Type 0
  LaidOut long rows starts (Ok n) = (hindrance long ≡ None) × Solved rows starts n
  LaidOut long rows starts (Err e) = hindrance long ≡ Some e

-- an offer's cost, and its places from tick 0 on; other places stay as they were
abbrev pub cost_of : {C : Type 0} → Result (Option (Label C)) LabelRefusal → Result (Option C) LabelRefusal
cost_of (Ok o) = Ok (option_map (λ l. l.cost) o)
cost_of (Err e) = Err e

abbrev pub walked : {C : Type 0} → Option (Label C) → List ℕ → List ℕ
walked None was = was
walked (Some o) was = reverse o.item

abbrev pub walk_of : {C : Type 0} → Result (Option (Label C)) LabelRefusal → List ℕ → List ℕ
walk_of (Ok o) was = walked o was
walk_of (Err e) was = was

-- every line and place that an instance names is there
pub record Inside {C : Type 0} (i : Instance C) : Type 0 where
  pub lines : AllByRecursion (AllByRecursion (λ m. m.line < length i.tariff)) i.moves
  pub starts : AllByRecursion (λ c. c.start < places i) i.carts
  pub goals : AllByRecursion (λ c. c.goal < places i) i.carts

module _ {C : Type 0} (a : Asked C) where
  -- c is the cost of some walk that the constraints permit the cart
  abbrev pub PermittedCost : C → Type 0
  PermittedCost c = (w : Walk a.inst a.cart) × Permitted a.inst a.constraints w × (w.cost ≡ c)

  -- the number counts the undominated costs of the permitted walks
  abbrev pub CountPromise : Result ℕ LabelRefusal → Type 0
  CountPromise (Ok n) = (cs : List C) × Front a.inst.kind PermittedCost cs × (n ≡ length cs)
  CountPromise (Err e) = Unit {0}

  -- the places are those of a permitted walk of the cost
  abbrev pub Written : List ℕ → Option C → Type 0
  Written ps None = Unit {0}
  Written ps (Some c) =
      (w : Walk a.inst a.cart) × Permitted a.inst a.constraints w × (w.cost ≡ c) × (length ps ≡ suc a.inst.horizon) × ((t : ℕ) → t ≤ a.inst.horizon → slice_index ps t ≡ place_at a.inst w t)

  -- the cost is the one with that number among the undominated costs of the permitted walks, in the kind's order, and a walk of it is written
  abbrev pub WalkPromise : ℕ → List ℕ → Result (Option C) LabelRefusal → Type 0
  WalkPromise n ps (Ok o) = ((cs : List C) × Front a.inst.kind PermittedCost cs × (o ≡ slice_get cs n)) × Written ps o
  WalkPromise n ps (Err e) = Unit {0}
