-- Rows removed in place: those that stay move up to the front, and what stands behind them is as it was.
-- Assumes nothing.
use Rattle.std.proofs.Common.{◌≡◌, ℕ, ◌+◌, ◌<◌, ◌≤◌, min, Bool, true, false, not, List, [], ◌∷◌, length, get_or, take, drop, set, filter, sym, refl, ap, ◌∙◌, inl, inr, arith}
use Rattle.std.proofs.lemmas.List.Filters.{FiltersInPlace, FiltersInPlace-more_set, FiltersInPlace-more_no}
use Rattle.std.proofs.lemmas.List.{drop-set-lt, length-map, length-take-le}
use Rattle.std.proofs.lemmas.Bool.{cases_Bool}
use Rattle.rules.specs.Kinds.{Kind}
use Rattle.rules.specs.Fronts.{unbeaten}
use Rattle.fronts.specs.declared.row.Row.{Row}
use Rattle.fronts.specs.Rows.{entry_of, entries, in_use}
use Rattle.fronts.specs.Changes.{Holds}
use Rattle.fronts.proofs.Parts.{take_up_to, drop_later}

-- what passes p in the first i of xs stands in the first n of ys, and from n on ys is as xs
pub record Removing {X : Type 0} (p : X → Bool) (xs ys : List X) (n i : ℕ) : Type 0 where
  pub keeping : FiltersInPlace p xs ys n i
  pub rest : drop n ys ≡ drop n xs

module _ {X : Type 0} {p : X → Bool} {xs ys : List X} {n i : ℕ} {x : X} where
  pub removing_stays : Removing p xs ys n i → i < length ys → p x ≡ true → x ≡ get_or ys i x → Removing p xs (set ys n x) (n + 1) (i + 1)
  removing_stays h within passes read =
      let lt : n < n + 1 = omega arith in
      record {
        keeping = FiltersInPlace-more_set h.keeping within passes read;
        rest = drop-set-lt (n + 1) ys n x lt ∙ drop_later n (n + 1) xs ys (omega arith) h.rest;
      }

  pub removing_goes : Removing p xs ys n i → i < length ys → p x ≡ false → x ≡ get_or ys i x → Removing p xs ys n (i + 1)
  removing_goes h within fails read = record { keeping = FiltersInPlace-more_no h.keeping within fails read; rest = h.rest }

module _ {C : Type 0} (k : Kind C) (c : C) where
  abbrev pub unbeaten_row : Row C → Bool
  unbeaten_row r = not (k.at_most c r.cost)

  pub entries-kept : (rs : List (Row C)) → entries (filter unbeaten_row rs) ≡ unbeaten k (entries rs) c
  entries-kept [] = refl
  entries-kept (r ∷ rs) =
      elim (cases_Bool (k.at_most c r.cost)) [ inl e ↦ rw e (entries-kept rs) | inr e ↦ rw e (ap (λ es. entry_of r ∷ es) (entries-kept rs)) ]

  pub removed_holds : (xs ys : List (Row C)) (len n i : ℕ) → Removing unbeaten_row xs ys n i → i ≡ min len (length xs) → Holds (unbeaten k (in_use len xs) c) xs ys n
  removed_holds xs ys len n i h e =
      let front : in_use n ys ≡ unbeaten k (in_use len xs) c = ap entries (h.keeping.front ∙ ap (filter unbeaten_row) (take_up_to len i xs e)) ∙ entries-kept (take len xs) in
      let within : n ≤ length ys = omega (arith, h.keeping.behind, h.keeping.within, h.keeping.long) in
      record { long = h.keeping.long; count = sym (length-take-le n ys within) ∙ sym (length-map (take n ys) entry_of) ∙ ap length front; front = front; rest = h.rest }
