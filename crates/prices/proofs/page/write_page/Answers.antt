use Rattle.std.proofs.Common.{◌≡◌, ℕ, ◌+◌, ◌<◌, List, [], ◌∷◌, ◌++◌, length, get_or, take, vec_items, sym, ap, ◌∙◌}
use Rattle.std.proofs.lemmas.List.{append-nil, map_push, take_more}
use Rattle.fronts.specs.Rows.{entry_of, entries}
use Rattle.fronts.specs.Whole.{costs_of}
use Rattle.fronts.specs.declared.row.Row.{Row}
use Rattle.prices.specs.PriceLists.{said}
use Rattle.prices.specs.Saying.{said_push}
use Rattle.prices.proofs.page.write_page.Goals as goal

-- one row more is written
row_more : {C : Type 0} (text : C → List ℕ) (rows : List (Row C)) (i : ℕ) (d : Row C) (was after : List ℕ) → i < length rows → was ≡ said text (costs_of (entries (take i rows))) → after ≡ was ++ (text (get_or rows i d).cost ++ (10 ∷ [])) → after ≡ said text (costs_of (entries (take (i + 1) rows)))
row_more text rows i d was after h e f =
    let front = take i rows in
    let row = get_or rows i d in
    f ∙ ap (λ bs. bs ++ (text row.cost ++ (10 ∷ []))) e ∙ said_push text (costs_of (entries front)) row.cost [] ∙ append-nil _ ∙
    ap (said text) (sym (map_push (λ e. e.cost) (entries front) (entry_of row)) ∙ ap costs_of (sym (map_push entry_of front row))) ∙
    ap (λ rs. said text (costs_of (entries rs))) (sym (take_more rows i d h))

pub loop-row-preserved : goal.loop-row-preserved
loop-row-preserved g c =
    row_more g.C.Text.text c.args.rows.now c.loop-row.row-index c.row-item.result (vec_items c.loop-row.out) (vec_items c.push_line.new.out)
    c.loop-row-test.true c.loop-row.invariant
    (c.in_ok-push_line.ensures ∙ ap (λ (row : Row g.row.C.Denot). vec_items c.loop-row.out ++ (g.C.Text.text row.cost ++ (10 ∷ []))) c.row-item.is)
