use Rattle.std.proofs.Common.{◌≡◌, ◌<◌, ◌≤◌, [], vec_items, Ok, Err, sym, refl, ap, ◌∙◌, subst, arith, below_more}
use Rattle.std.specs.List.{range_with_len, flat_map}
use Rattle.std.proofs.lemmas.List.{length-map}
use Rattle.std.proofs.lemmas.Result.{err_from_is_err_and}
use Rattle.carts.specs.Carts.{cart_of}
use Rattle.rules.specs.Instances.{cart_count}
use Rattle.rules.specs.Offers.{offers, label_count}
use Rattle.offer_pages.specs.Texts.{cart_text}
use Rattle.offer_pages.specs.Carts.{CartAdded}
use Rattle.offer_pages.specs.Views.{meant}
use Rattle.offer_pages.proofs.Adding.{cart_grows, page_stopped}
use Rattle.offer_pages.proofs.Instances.{sound, all_right}
use Rattle.offer_pages.proofs.writer.PageWriter.write_page.Goals as goal

pub loop-cart-init : goal.loop-cart-init
loop-cart-init g c = (refl, c.new-out.ensures.items, λ n h. absurd (omega arith))

pub push_cart-requires : goal.push_cart-requires
push_cart-requires g c =
    let known : c.loop-cart.cart < cart_count (meant g.F.Floor.moves g.C.CostKind.kind c.args.self.now.site.now) = omega (arith, c.loop-cart-test.true, length-map c.args.self.now.site.now.carts.now cart_of) in
    record { known = subst (λ site. c.loop-cart.cart < cart_count (meant g.F.Floor.moves g.C.CostKind.kind site.now)) (sym c.loop-cart.invariant.0) known }

pub returns-in_err-push_cart : goal.returns-in_err-push_cart
returns-in_err-push_cart g c =
    let i = meant g.F.Floor.moves g.C.CostKind.kind c.args.self.now.site.now in
    let p = err_from_is_err_and c.from_residual.result c.from_residual.ensures.1 in
    let added = subst (λ site. CartAdded g.C.Text.text (meant g.F.Floor.moves g.C.CostKind.kind site.now) c.loop-cart.cart (vec_items c.loop-cart.out) (vec_items c.push_cart.new.out) (Err c.in_err-push_cart.field-0.0)) c.loop-cart.invariant.0 c.in_err-push_cart.ensures.added in
    rw (p.1, p.2)
    (page_stopped g.C.Text.text i c.loop-cart.cart (vec_items c.loop-cart.out) (vec_items c.push_cart.new.out) c.in_err-push_cart.field-0.0
    (omega (arith, c.loop-cart-test.true, length-map c.args.self.now.site.now.carts.now cart_of)) c.args.self.now.ready.checked added)

pub loop-cart-preserved : goal.loop-cart-preserved
loop-cart-preserved g c =
    let i = meant g.F.Floor.moves g.C.CostKind.kind c.args.self.now.site.now in
    let added = subst (λ site. CartAdded g.C.Text.text (meant g.F.Floor.moves g.C.CostKind.kind site.now) c.loop-cart.cart (vec_items c.loop-cart.out) (vec_items c.push_cart.new.out) (Ok tt)) c.loop-cart.invariant.0 c.in_ok-push_cart.ensures.added in (
      c.push_cart.ensures.site ∙ c.loop-cart.invariant.0,
      cart_grows (λ n. cart_text g.C.Text.text n (offers i n [])) (vec_items c.loop-cart.out) (vec_items c.push_cart.new.out) c.loop-cart.cart c.loop-cart.invariant.1 added.1,
      below_more (λ n. label_count i n [] ≤ 2048) c.loop-cart.cart c.loop-cart.invariant.2 added.0,
    )

pub returns : goal.returns
returns g c =
    let i = meant g.F.Floor.moves g.C.CostKind.kind c.args.self.now.site.now in
    let ready = c.args.self.now.ready in
    let all : c.loop-cart.cart ≡ cart_count i = omega (arith, c.loop-cart-test.false, c.loop-cart.auto.cart-end, length-map c.args.self.now.site.now.carts.now cart_of) in (
      ready.checked,
      (λ n known. c.loop-cart.invariant.2 n (omega (arith, known, all))),
      all_right i (sound i g.met.C.CostKind.laws (g.met.F.Floor.bounds c.args.self.now.site.now.floor.now) ready.checked),
      c.loop-cart.invariant.1 ∙ ap (λ n. flat_map (λ k. cart_text g.C.Text.text k (offers i k [])) (range_with_len 0 n)) all,
    )
