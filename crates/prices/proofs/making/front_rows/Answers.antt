use Rattle.std.proofs.Common.{◌≡◌, ℕ, List, length, take, vec_items, vec_len, Option, Vec, sym, ap, ◌∙◌, subst}
use Rattle.std.specs.Vec.{with_items}
use Rattle.std.specs.declared.alloc.Global.{Global}
use Rattle.std.proofs.lemmas.List.{with_items_is}
use Rattle.rules.specs.Kinds.{Kind}
use Rattle.rules.specs.Fronts.{Front}
use Rattle.fronts.specs.Rows.{entries, in_use}
use Rattle.fronts.specs.Whole.{costs_of, Fronted}
use Rattle.fronts.specs.declared.row.Row.{Row}
use Rattle.prices.proofs.making.front_rows.Goals as goal

-- the rows in use are those that stay
cut_front : {C : Type 0} (k : Kind C) (P : C → Type 0) (last kept : List (Row C)) (rows : Vec (Row C) Global) (n : ℕ) → kept ≡ take n (vec_items (with_items rows last)) → length last ≡ vec_len rows → Front k P (costs_of (in_use n last)) → Front k P (costs_of (entries kept))
cut_front {C} k P last kept rows n e l f =
    subst (λ (rs : List (Row C)). Front k P (costs_of (entries rs))) (sym (e ∙ ap (take n) (with_items_is rows last l))) f

pub returns : goal.returns
returns g c =
    cut_front g.C.CostKind.kind _ c.front_of.new.rows (vec_items c.truncate.new.self) c.in_ok-rows.rows c.unwrap-kept.result
    c.truncate.ensures.items (c.front_of.auto.rows ∙ c.as_mut_slice.ensures.len)
    (subst (λ (r : Option ℕ). Fronted g.C.CostKind.kind c.args.given.now c.as_mut_slice.result.now c.front_of.new.rows r) c.unwrap-kept.ensures c.front_of.ensures).front
