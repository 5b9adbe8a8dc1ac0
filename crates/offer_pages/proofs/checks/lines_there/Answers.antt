use Rattle.std.proofs.Common.{◌<◌, List, [], length, get_or, refl, arith, rules}
use Rattle.std.specs.List.{AllByRecursion}
use Rattle.std.proofs.lemmas.List.Elements.{All-from_get_or, All-from_recursion, recursion_from_All}
use Rattle.std.proofs.lemmas.Iterator.{cases_from_all, YieldsList-from_range}
use Rattle.rules.specs.Instances.{Move}
use Rattle.offer_pages.proofs.Checking.{all_in_range}
use Rattle.offer_pages.proofs.checks.lines_there.Goals as goal

pub returns-then-contains : goal.returns-then-contains
returns-then-contains g c =
    let moves = g.F.Floor.moves c.args.site.now.floor.now in
    let lines = length c.args.site.now.tariff.now in
    let Below : List Move → Type 0 = AllByRecursion (λ (m : Move). m.line < lines) in
    let cases = cases_from_all _ _ c.all.result (λ x. Below (get_or moves x [])) (λ x. Below (get_or moves x []) → ⊥) c.all.ensures.ran (YieldsList-from_range 0 c.places.result c.places.result refl (omega arith)) (λ x q called. search rules) (λ x q called. search rules) in
    let each = all_in_range (λ x. Below (get_or moves x [])) c.places.result c.all.result cases in (
      λ e. record { some = search rules; few = search rules; inside = recursion_from_All Below moves (All-from_get_or Below moves [] (λ k h. each.0 e k (omega (arith, c.places.ensures, h)))) },
      λ there. each.1 (λ k h. All-from_recursion Below moves there.inside k [] (omega (arith, c.places.ensures, h))),
    )
