-- From the tables to the answers: what is refused, and what the counts and walks promise.
-- Assumes nothing.
use Rattle.std.proofs.Common.{◌≡◌, ℕ, zero, suc, ◌+◌, ◌<◌, ◌≤◌, Bool, true, false, cond, eqb, ltb, leb, List, [], ◌∷◌, map, length, take, Some, None, Ok, Option, Result, sym, refl, ap, ◌∙◌, subst, arith}
use Rattle.std.specs.Option.{option_map}
use Rattle.std.specs.List.{AllByRecursion, slice_get}
use Rattle.std.proofs.lemmas.List.{length-map, length-reverse}
use Rattle.std.proofs.lemmas.Bool.{ltb-false, leb-false, eq-eqb, cond-true}
use Rattle.floors.specs.Floors.{FloorBounds}
use Rattle.rules.specs.Kinds.{Laws}
use Rattle.rules.specs.Fronts.{Front, front_of}
use Rattle.rules.specs.Instances.{Sound, cart_count, start_of, goal_of}
use Rattle.rules.specs.Offers.{Label, Serves}
use Rattle.rules.specs.Walks.{Walk}
use Rattle.std.proofs.ByRecursion.{All-weaker}
use Rattle.rules.proofs.Offers.{offers_served, offers_right}
use Rattle.labels.specs.declared.arrivals.Arrivals.{Arrivals}
use Rattle.labels.specs.declared.landing.Landing.{Landing}
use Rattle.labels.specs.declared.row.LabelRow.{LabelRow}
use Rattle.labels.specs.declared.refusal.LabelRefusal.{LabelRefusal}
use Rattle.labels.specs.declared.refusal.LabelRefusal.TheVariants.{WrongLength, HorizonTooLong, TooManyRows, NoSuchCart, StartOffFloor, GoalOffFloor}
use Rattle.labels.specs.Answers.{told, refusal, hindrance, walk_hindrance, Solved, ArrivalsOf, Inside, PermittedCost, CountPromise, Written, WalkPromise, walked}
use Rattle.labels.specs.Arrivals.{LandingOf}
use Rattle.labels.specs.Choices.{arrived}
use Rattle.labels.specs.Landings.{Lands, landed}
use Rattle.labels.specs.Queries.{Asked, place_count, offers_of}
use Rattle.labels.specs.Rows.{shown}
use Rattle.labels.proofs.Arriving.{lands, landed_is, offers_few}

module _ {C : Type 0} (a : Asked C) (rows : ℕ) where
  -- the answers of the checks decide
  abbrev refused : Bool → Bool → Bool → Bool → Bool → Option LabelRefusal
  refused horizon many cart start goal =
      cond horizon (Some HorizonTooLong) (cond many (Some TooManyRows) (cond cart (Some NoSuchCart) (cond start (Some StartOffFloor) (cond goal (Some GoalOffFloor) None))))

  pub refused_by : (b₁ b₂ b₃ b₄ b₅ : Bool) → ltb 64 a.inst.horizon ≡ b₁ → ltb 65535 rows ≡ b₂ → leb (cart_count a.inst) a.cart ≡ b₃ → leb (place_count a) (start_of a.inst a.cart) ≡ b₄ → leb (place_count a) (goal_of a.inst a.cart) ≡ b₅ →
      refused b₁ b₂ b₃ b₄ b₅ ≡ refusal a rows
  refused_by b₁ b₂ b₃ b₄ b₅ e₁ e₂ e₃ e₄ e₅ =
      λ j. refused (sym e₁ j) (sym e₂ j) (sym e₃ j) (sym e₄ j) (sym e₅ j)

  passes : (b₁ b₂ b₃ b₄ b₅ : Bool) → refused b₁ b₂ b₃ b₄ b₅ ≡ None → (b₁ ≡ false) × (b₂ ≡ false) × (b₃ ≡ false) × (b₄ ≡ false) × (b₅ ≡ false)
  passes true b₂ b₃ b₄ b₅ e = let z : ◌≡◌ {A = ℕ} 0 1 = cc e in absurd (omega arith)
  passes false true b₃ b₄ b₅ e = let z : ◌≡◌ {A = ℕ} 0 1 = cc e in absurd (omega arith)
  passes false false true b₄ b₅ e = let z : ◌≡◌ {A = ℕ} 0 1 = cc e in absurd (omega arith)
  passes false false false true b₅ e = let z : ◌≡◌ {A = ℕ} 0 1 = cc e in absurd (omega arith)
  passes false false false false true e = let z : ◌≡◌ {A = ℕ} 0 1 = cc e in absurd (omega arith)
  passes false false false false false e = (refl, refl, refl, refl, refl)

  -- what is known of a query that is not refused
  pub record Admitted : Type 0 where
    pub ticks : a.inst.horizon ≤ 64
    pub few : rows ≤ 65535
    pub known : a.cart < cart_count a.inst
    pub inside : goal_of a.inst a.cart < place_count a

  unhindered : (o : Option LabelRefusal) → ◌≡◌ {A = Result (Unit {0}) LabelRefusal} (Ok tt) (told o tt) → o ≡ None
  unhindered None e = refl
  unhindered (Some r) e = let z : ◌≡◌ {A = ℕ} 0 1 = cc e in absurd (omega arith)

  pub admitted : ◌≡◌ {A = Result (Unit {0}) LabelRefusal} (Ok tt) (told (refusal a rows) tt) → Admitted
  admitted ok =
      let f = passes _ _ _ _ _ (unhindered (refusal a rows) ok) in
      record { ticks = ltb-false 64 a.inst.horizon f.0; few = ltb-false 65535 rows f.1; known = leb-false (cart_count a.inst) a.cart f.2; inside = leb-false (place_count a) (goal_of a.inst a.cart) f.4 }

  pub walk_unhindered : (long : ℕ) → long ≡ suc a.inst.horizon → hindrance a rows ≡ None → walk_hindrance a rows long ≡ None
  walk_unhindered long e h = cond-true (eqb long (suc a.inst.horizon)) (hindrance a rows) (Some WrongLength) (eq-eqb long (suc a.inst.horizon) e) ∙ h

-- what stands at a place of a list
module _ {X : Type 0} where
  nth-map : {Y : Type 0} (f : X → Y) (xs : List X) (n : ℕ) → option_map f (slice_get xs n) ≡ slice_get (map f xs) n
  nth-map f [] n = refl
  nth-map f (x ∷ xs) zero = refl
  nth-map f (x ∷ xs) (suc n) = nth-map f xs n

  pub all_nth : (P : X → Type 0) (xs : List X) (n : ℕ) (x : X) → AllByRecursion P xs → Some x ≡ slice_get xs n → P x
  all_nth P [] n x h e = let z : ◌≡◌ {A = ℕ} 0 1 = cc e in absurd (omega arith)
  all_nth P (y ∷ ys) zero x h e = let same : y ≡ x = cc e in subst P same h.0
  all_nth P (y ∷ ys) (suc n) x h e = all_nth P ys n x h.1 e

module _ {C : Type 0} (a : Asked C) (l : Landing) (at : LandingOf a l) (rows : List (LabelRow C)) (starts : List ℕ) (end : ℕ) (s : Solved a rows starts end) where
  pub solved_lands : place_count a ≤ 128 → length starts ≡ 8321 → Lands (take end rows) starts l
  solved_lands places long = lands a l at rows starts end s.held s.inside s.few s.ticks places long

  -- the offers found are the cart's
  pub solved_offers : front_of a.inst.kind (landed starts l (shown (take end rows))) ≡ offers_of a
  solved_offers = ap (front_of a.inst.kind) (sym (landed_is a l at rows starts end s.held s.inside))

pub solved_few : {C : Type 0} (a : Asked C) (rows : List (LabelRow C)) (starts : List ℕ) (end : ℕ) → Solved a rows starts end → Laws a.inst.kind → length (offers_of a) ≤ 65535
solved_few a rows starts end s laws = omega (arith, offers_few a laws, s.count, s.held.within, s.few)

-- each offer has a place for each tick
pub offers_long : {C : Type 0} (a : Asked C) (x : Arrivals C) → ArrivalsOf a x → (n : ℕ) → n ≡ a.inst.horizon + 1 → AllByRecursion (λ (o : Label C). length o.item ≡ n) (front_of a.inst.kind (arrived x))
offers_long {C} a x of n e =
    subst (AllByRecursion (λ (o : Label C). length o.item ≡ n)) (sym of.offers)
    (All-weaker (λ o. (w : Walk a.inst a.cart) × Serves a.inst a.constraints o w) (λ (o : Label C). length o.item ≡ n) (λ o s. omega (arith, s.1.long, e)) (offers_of a) (offers_served a.inst a.cart a.constraints))

-- what the answers promise of a sound instance
module _ {C : Type 0} (a : Asked C) (laws : Laws a.inst.kind) (bounds : FloorBounds a.inst.moves) (known : a.cart < cart_count a.inst) (inside : Inside a.inst) where
  sound : Sound a.inst
  sound = record { laws = laws; moves_inside = bounds.moves_inside; lines_inside = inside.lines; starts_inside = inside.starts; goals_inside = inside.goals }

  exact : Front a.inst.kind (PermittedCost a) (map (λ o. o.cost) (offers_of a))
  exact = (offers_right a.inst sound).0 a.cart known a.constraints

  pub count_promise : (n : ℕ) → n ≡ length (offers_of a) → CountPromise a (Ok n)
  count_promise n e = (map (λ o. o.cost) (offers_of a), exact, e ∙ sym (length-map (offers_of a) (λ o. o.cost)))

  written : (n : ℕ) (was : List ℕ) (o : Option (Label C)) → o ≡ slice_get (offers_of a) n → Written a (walked o was) (option_map (λ x. x.cost) o)
  written n was None e = tt
  written n was (Some o) e =
      let served = all_nth _ (offers_of a) n o ((offers_right a.inst sound).1 a.cart known a.constraints) e in
      (served.0, served.1.permitted, served.1.same_cost, length-reverse o.item ∙ served.1.long, served.1.same_places)

  pub walk_promise : (n : ℕ) (was ps : List ℕ) (o : Option C) → o ≡ option_map (λ x. x.cost) (slice_get (offers_of a) n) → ps ≡ walked (slice_get (offers_of a) n) was → WalkPromise a n ps (Ok o)
  walk_promise n was ps o answer places = (
    (map (λ x. x.cost) (offers_of a), exact, answer ∙ nth-map (λ x. x.cost) (offers_of a) n),
    subst (λ q. Written a q o) (sym places) (subst (Written a (walked (slice_get (offers_of a) n) was)) (sym answer) (written n was (slice_get (offers_of a) n) refl)),
  )
