use Rattle.std.proofs.Common.{◌≡◌, rules, ◌<◌, [], length, get_or, ℕ, refl, sym, subst, arith}
use lib.ListN.{get_elem?}
use mathlib.Core.Option.{some}
use Rattle.std.proofs.lemmas.Iterator.{cases_from_all, YieldsList-from_range}
use Rattle.std.proofs.lemmas.List.Elements.{All-from_get_or, All-from_recursion, recursion_from_All}
use Rattle.rules.specs.Instances.{Move}
use Rattle.rules.proofs.Members.{at_place, at_getD}
use Rattle.offer_pages.proofs.Checking.{all_in_range}
use Rattle.offer_pages.proofs.checks.all_pay_below.Goals as goal

pub returns : goal.returns
returns g c =
    let ms = get_or (g.F.Floor.moves c.args.floor.now) c.args.place [] in
    let none : Move = record { to = 0; line = 0 } in
    let Below : Move → Type 0 = λ m. m.line < c.args.lines in
    let Pays : ℕ → Type 0 = λ x. (m : Move) × (get_elem? ms x ≡ some m) × Below m in
    let n = c.move_count.result in
    let cases = cases_from_all _ _ c.all.result Pays (λ x. Pays x → ⊥) c.all.ensures.ran (YieldsList-from_range 0 n n refl (omega arith)) (λ x q called. search rules) (λ x q called. search rules) in
    let each = all_in_range Pays n c.all.result cases in (
      λ e. recursion_from_All Below ms (All-from_get_or Below ms none (λ k h. let p = each.0 e k (omega (arith, c.move_count.ensures, h)) in rw ((at_place ms k p.0 p.1).1 none) p.2)),
      λ all. each.1 (λ k h. let within : k < length ms = omega (arith, c.move_count.ensures, h) in (get_or ms k none, at_getD ms k none within, All-from_recursion Below ms all k none within)),
    )
