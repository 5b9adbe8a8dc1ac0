use Rattle.std.proofs.Common.{◌≡◌, ℕ, ◌<◌, ◌≤◌, [], vec_items}
use Rattle.std.specs.List.{range_with_len, flat_map}
use Rattle.rules.specs.Offers.{offers, label_count}
use Rattle.offer_pages.specs.Texts.{cart_text}
use Rattle.offer_pages.specs.Views.{meant}
use Rattle.offer_pages.proofs.writer.PageWriter.write_page.Given as goal

-- the carts so far stand on the page, and their labels fit
abbrev pub invariant-loop-cart : goal.invariant-loop-cart
invariant-loop-cart g l =
    let i = meant g.F.Floor.moves g.C.CostKind.kind l.initial.self.site.now in
    (l.self.site ≡ l.initial.self.site)
    × (vec_items l.out ≡ flat_map (λ n. cart_text g.C.Text.text n (offers i n [])) (range_with_len 0 l.cart))
    × ((n : ℕ) → n < l.cart → label_count i n [] ≤ 2048)
