-- What a chain of iterators over the rows in use comes to, in the words of the front's entries.
-- Assumes nothing.
use Rattle.std.proofs.Common.{◌≡◌, suc, cond, ◌||◌, List, [], ◌∷◌, length, filter, sym, refl, ap, ◌∙◌, one-add}
use Rattle.std.specs.List.{list_any, prefix_len}
use Rattle.std.proofs.lemmas.List.{length-map}
use Rattle.rules.specs.Kinds.{Kind}
use Rattle.rules.specs.Fronts.{covered, unbeaten}
use Rattle.fronts.specs.declared.row.Row.{Row}
use Rattle.fronts.specs.Rows.{entry_of, entries, place}
use Rattle.fronts.proofs.Removals.{unbeaten_row, entries-kept}

module _ {C : Type 0} (k : Kind C) (c : C) where
  pub any_covers : (rs : List (Row C)) → list_any (λ r. k.at_most r.cost c) rs ≡ covered k (entries rs) c
  any_covers [] = refl
  any_covers (r ∷ rs) = ap (λ b. k.at_most r.cost c || b) (any_covers rs)

  pub first_place : (rs : List (Row C)) → prefix_len (λ r. k.before r.cost c) rs ≡ place k (entries rs) c
  first_place [] = refl
  first_place (r ∷ rs) = ap (λ n. cond (k.before r.cost c) n 0) (one-add _ ∙ ap suc (first_place rs))

  pub length_kept : (rs : List (Row C)) → length (filter (unbeaten_row k c) rs) ≡ length (unbeaten k (entries rs) c)
  length_kept rs = sym (length-map (filter (unbeaten_row k c) rs) entry_of) ∙ ap length (entries-kept k c rs)
