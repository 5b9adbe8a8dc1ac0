use Rattle.std.proofs.Common.{◌≡◌, [], ◌++◌, take, vec_items}
use Rattle.std.specs.List.{flat_map}
use Rattle.rules.specs.Offers.{offers}
use Rattle.offer_pages.specs.Texts.{offer_text}
use Rattle.offer_pages.specs.Views.{meant}
use Rattle.offer_pages.proofs.writer.PageWriter.push_cart.Given as goal

abbrev pub invariant-loop-number : goal.invariant-loop-number
invariant-loop-number g l =
    (l.self.site ≡ l.initial.self.site)
    × (vec_items l.out ≡ vec_items l.initial.out ++ flat_map (offer_text g.C.Text.text) (take l.number (offers (meant g.F.Floor.moves g.C.CostKind.kind l.initial.self.site.now) l.fn.cart [])))
