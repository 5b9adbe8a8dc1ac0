-- The lists that hold a floor's moves: one list more, one move more, and one move asked for.
-- Assumes nothing.
use Rattle.std.proofs.Common.{◌≡◌, ℕ, zero, suc, ◌<◌, List, [], ◌∷◌, ◌++◌, map, length, get_or, set, drop, true, false, ltb, Some, None, Option, is_some, Bor, refl, ap, sym, ◌∙◌, inl, inr, arith, rules}
use Rattle.std.proofs.Math.ListN.{get_elem?}
use Rattle.std.specs.List.{refill, slice_get, ItemBy}
use Rattle.std.specs.Option.{option_copied, unwrap_or}
use Rattle.std.proofs.lemmas.Bool.{cases_lt, lt-ltb, le-ltb}
use Rattle.std.proofs.lemmas.List.{get_or-map, map-set, map_push, take_at}
use Rattle.std.proofs.lemmas.Option.{get_or_from_slice_get, slice_get_within, slice_get_past, slice_get-get_or}
use Rattle.arrayvec.specs.ArrayVec.{ArrayVec}
use Rattle.rules.specs.Instances.{Move}
use Rattle.floors.specs.declared.step.Step.{Step}
use Rattle.floors.specs.Floors.{move_of, step_option}
use Rattle.floors.specs.MoveTables.{extended}

abbrev pub held : ArrayVec Step → List Move
held l = map move_of l.items

-- a write of all items keeps none of the old ones
pub refilled : {X : Type 0} (xs ws : List X) → length ws ≡ length xs → refill (length xs) xs ws ≡ ws
refilled xs ws long = take_at ws (drop (length ws) xs) (length xs) long

pub pushed : (lists : List (ArrayVec Step)) (p : ℕ) (d after : ArrayVec Step) (s : Step) → p < length lists → after.items ≡ (get_or lists p d).items ++ s ∷ [] → map held (set lists p after) ≡ extended (map held lists) p (move_of s ∷ [])
pushed lists p d after s lt more =
    map-set held lists p after
    ∙ ap (set (map held lists) p) (ap (map move_of) more ∙ map_push move_of (get_or lists p d).items s ∙ ap (λ ms. ms ++ move_of s ∷ []) (sym (get_or-map held lists p d [] lt)))

-- what `get` answers
looked : {X : Type 0} (o : Option X) (xs : List X) (k : ℕ) → is_some o ≡ ltb k (length xs) → ((d : X) → unwrap_or o d ≡ get_or xs k d) → o ≡ slice_get xs k
looked None xs k has at = elim (cases_lt k (length xs)) [ inl lt ↦ (let e : false ≡ true = has ∙ lt-ltb k (length xs) lt in absurd (search (rules, e))) | inr ge ↦ sym (slice_get_past xs k ge) ]
looked (Some x) xs k has at = elim (cases_lt k (length xs)) [ inl lt ↦ ap Some (at x) ∙ sym (slice_get-get_or xs k x lt) | inr ge ↦ (let e : true ≡ false = has ∙ le-ltb k (length xs) ge in absurd (search (rules, e))) ]

pub looked_at : {X : Type 0} (r : Option (Bor X)) (xs : List X) (k : ℕ) → ItemBy (λ x. x.now) xs k k r → option_copied r ≡ slice_get xs k
looked_at r xs k h = looked (option_copied r) xs k (mapped r ∙ h.0) (h.4 (omega arith))
  where
    mapped : {X : Type 0} (r : Option (Bor X)) → is_some (option_copied r) ≡ is_some r
    mapped None = refl
    mapped (Some x) = refl

-- the list of a place, where it has one
pub found : (lists : List (ArrayVec Step)) (p : ℕ) (l : ArrayVec Step) → slice_get lists p ≡ Some l → get_or (map held lists) p [] ≡ held l
found lists p l is = get_or-map held lists p l [] (slice_get_within lists p l is) ∙ ap held (get_or_from_slice_get lists p l l is)

pub stepped : (steps : List Step) (k : ℕ) → step_option (slice_get steps k) ≡ get_elem? (map move_of steps) k
stepped [] k = refl
stepped (s ∷ steps) zero = refl
stepped (s ∷ steps) (suc k) = stepped steps k
