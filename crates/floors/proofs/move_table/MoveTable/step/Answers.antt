use Rattle.std.proofs.Common.{[], map, get_or, sym, ap, ◌∙◌}
use lib.ListN.{get_elem?}
use Rattle.std.specs.List.{slice_get}
use Rattle.std.specs.Option.{option_copied}
use Rattle.floors.specs.Floors.{move_of, step_option}
use Rattle.floors.proofs.Tables.{found, looked_at, stepped}
use Rattle.floors.proofs.move_table.MoveTable.step.Goals as goal

pub returns : goal.returns
returns c =
    let p = c.from.result in
    let n = c.from-2.result in
    let list = c.in_ok-get.field-0.now in
    let lists = c.self.inside.lists.items in
    let is = ap (λ ls. slice_get ls p) (sym c.deref.ensures.0) ∙ sym (looked_at c.get.result c.deref.result.now p c.get.ensures.lookup) ∙ ap option_copied c.in_ok-get.was in
    ap step_option (c.copied.ensures ∙ looked_at c.get-2.result c.deref-2.result.now n c.get-2.ensures.lookup)
    ∙ stepped c.deref-2.result.now n
    ∙ ap (λ ms. get_elem? ms n) (ap (map move_of) c.deref-2.ensures.0 ∙ sym (found lists p list is) ∙ ap (λ ms. get_or ms p []) c.self.view_is)
    ∙ ap (λ k. get_elem? (get_or c.args.self.now p []) k) c.from-2.ensures
    ∙ ap (λ q. get_elem? (get_or c.args.self.now q []) c.args.number) c.from.ensures
