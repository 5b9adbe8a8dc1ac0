-- The front of some entries: how it grows with one entry more, and that it is the front of their costs.
-- Assumes nothing.
use Rattle.std.proofs.Common.{◌≡◌, ℕ, ◌+◌, ◌<◌, List, [], ◌∷◌, ◌++◌, length, get_or, refl, ap, ◌∙◌, inl, inr}
use Rattle.std.specs.List.{ContainsAt as Has, AllByRecursion}
use Rattle.std.proofs.lemmas.List.{map_more}
use Rattle.std.proofs.ByRecursion.{all-has, all_has_itself, All-map, All-weaker}
use Rattle.rules.specs.Kinds.{Kind, Laws}
use Rattle.rules.specs.Fronts.{Entry, Front, added, added_all, front_of}
use Rattle.rules.proofs.Fronts.{Covered, all_front, front_covers, is_front, ranked_front}
use Rattle.rules.proofs.Members.{all_of_map}
use Rattle.fronts.specs.declared.row.Row.{Row}
use Rattle.fronts.specs.Rows.{entry_of, in_use}
use Rattle.fronts.specs.Whole.{costs_of}

module _ {C : Type 0} (k : Kind C) where
  added_all_push : (es ys : List (Entry C ℕ)) (x : Entry C ℕ) → added_all k es (ys ++ x ∷ []) ≡ added k (added_all k es ys) x
  added_all_push es [] x = refl
  added_all_push es (y ∷ ys) x = added_all_push (added k es y) ys x

  -- one row more
  pub front_more : (rs : List (Row C)) (i : ℕ) (d : Row C) → i < length rs → front_of k (in_use (i + 1) rs) ≡ added k (front_of k (in_use i rs)) (entry_of (get_or rs i d))
  front_more rs i d lt = ap (front_of k) (map_more entry_of rs i d lt) ∙ added_all_push [] (in_use i rs) (entry_of (get_or rs i d))

  -- each entry's cost is covered by itself
  self_covered : Laws k → (xs : List (Entry C ℕ)) → AllByRecursion (λ e. Covered k xs e.cost) xs
  self_covered laws [] = tt
  self_covered laws (x ∷ xs) =
      (inl (laws.at_most_refl x.cost), All-weaker (λ e. Covered k xs e.cost) (λ e. Covered k (x ∷ xs) e.cost) (λ e h. inr h) xs (self_covered laws xs))

  -- each entry's cost is among the costs
  own_cost : (xs : List (Entry C ℕ)) → AllByRecursion (λ e. Has (costs_of xs) e.cost) xs
  own_cost xs = all_of_map (Has (costs_of xs)) (λ e. e.cost) xs (all_has_itself (costs_of xs))

  -- the front that is kept is the front of the costs
  pub is_whole : Laws k → (xs : List (Entry C ℕ)) → Front k (Has (costs_of xs)) (costs_of (front_of k xs))
  is_whole laws xs =
      is_front k laws (Has (costs_of xs)) (front_of k xs) (ranked_front k laws xs) (all_front k (λ e. Has (costs_of xs) e.cost) xs (own_cost xs))
      (λ c h. front_covers k laws xs c (all-has (Covered k xs) (costs_of xs) c (All-map (Covered k xs) (λ e. e.cost) xs (self_covered laws xs)) h))
