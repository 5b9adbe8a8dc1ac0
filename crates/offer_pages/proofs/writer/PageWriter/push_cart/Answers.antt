use Rattle.std.proofs.Common.{◌≡◌, ℕ, [], ◌++◌, length, None, Ok, IsErr, rules, vec_items, sym, refl, ap, ◌∙◌, subst, arith}
use Rattle.std.proofs.lemmas.List.{append-nil}
use Rattle.std.proofs.lemmas.Result.{err_from_is_err_and}
use Rattle.labels.specs.Answers.{walk_hindrance}
use Rattle.offer_pages.specs.declared.fault.Fault.TheVariants.{ManyLabels}
use Rattle.rules.specs.Offers.{Label, offers}
use Rattle.offer_pages.specs.Texts.{offer_text}
use Rattle.offer_pages.specs.Views.{meant, alone}
use Rattle.offer_pages.proofs.Adding.{grows, grown, option_at, cart_whole}
use Rattle.offer_pages.proofs.Counting.{lent, counted, too_many}
use Rattle.offer_pages.proofs.writer.PageWriter.push_cart.Goals as goal

pub returns-in_err-count-clause-added : goal.returns-in_err-count-clause-added
returns-in_err-count-clause-added g c =
    let me = c.args.self.now in
    let i = meant g.F.Floor.moves g.C.CostKind.kind me.site.now in
    let ready = lent i me.rows.items c.as_mut_slice.result.now (length me.places.items) c.as_mut_slice.ensures.value me.ready in
    let refused : IsErr c.count_offers.result = search rules in
    let stop : c.in_err-count.field-0.0 ≡ ManyLabels = search rules in
    let p = err_from_is_err_and c.from_residual.result c.from_residual.ensures.1 in
    rw (p.1, p.2, stop)
    (refl, too_many i c.args.cart (length c.as_mut_slice.result.now) (length me.places.items) ready c.requires.known c.count_offers.result (length (offers i c.args.cart [])) refused c.count_offers.ensures.counted)

pub loop-number-init : goal.loop-number-init
loop-number-init g c = (refl, sym (append-nil (vec_items c.extend_from_slice.new.self)))

pub push_offer-requires : goal.push_offer-requires
push_offer-requires g c =
    let me = c.args.self.now in
    let later = c.loop-number.self in
    let i = meant g.F.Floor.moves g.C.CostKind.kind me.site.now in
    let rows = length c.as_mut_slice.result.now in
    let long = length me.places.items in
    let ready = lent i me.rows.items c.as_mut_slice.result.now long c.as_mut_slice.ensures.value me.ready in
    let was : c.count_offers.result ≡ Ok c.in_ok-count.count = search rules in
    let k = counted i c.args.cart rows long ready c.requires.known c.in_ok-count.count (length (offers i c.args.cart [])) (sym was ∙ c.count_offers.ensures.counted) in
    let same_rows : rows ≡ length later.rows.items = omega (arith, ready.many, later.ready.many) in
    let same-long : long ≡ length later.places.items = omega (arith, ready.long, later.ready.long, ap (λ site. site.now.horizon) c.loop-number.invariant.0) in
    record {
      free = subst (λ (n : ℕ). walk_hindrance (alone i c.args.cart) n (length later.places.items) ≡ None) same_rows
          (subst (λ (n : ℕ). walk_hindrance (alone i c.args.cart) rows n ≡ None) same-long k.free);
      known = omega (arith, c.loop-number-test.true, k.count);
    }

pub loop-number-preserved : goal.loop-number-preserved
loop-number-preserved g c =
    let me = c.args.self.now in
    let i = meant g.F.Floor.moves g.C.CostKind.kind me.site.now in
    let os = offers i c.args.cart [] in
    let ready = lent i me.rows.items c.as_mut_slice.result.now (length me.places.items) c.as_mut_slice.ensures.value me.ready in
    let was : c.count_offers.result ≡ Ok c.in_ok-count.count = search rules in
    let k = counted i c.args.cart (length c.as_mut_slice.result.now) (length me.places.items) ready c.requires.known c.in_ok-count.count (length os) (sym was ∙ c.count_offers.ensures.counted) in
    let d : Label g.row.C.Denot = record { cost = g.C.CostKind.kind.zero; item = [] } in (
      c.push_offer.ensures.site ∙ c.loop-number.invariant.0,
      grows (offer_text g.C.Text.text) os (vec_items c.extend_from_slice.new.self) (vec_items c.loop-number.out) (vec_items c.push_offer.new.out) c.loop-number.number d
          (omega (arith, c.loop-number-test.true, k.count)) c.loop-number.invariant.1
          (c.in_ok-push_offer.ensures.added ∙ ap (λ t. vec_items c.loop-number.out ++ t) (option_at g.C.Text.text os c.loop-number.number d (omega (arith, c.loop-number-test.true, k.count)))),
    )

pub returns-in_err-push_offer-clause-site : goal.returns-in_err-push_offer-clause-site
returns-in_err-push_offer-clause-site g c = c.push_offer.ensures.site ∙ c.loop-number.invariant.0

pub returns : goal.returns
returns g c =
    let me = c.args.self.now in
    let i = meant g.F.Floor.moves g.C.CostKind.kind me.site.now in
    let os = offers i c.args.cart [] in
    let ready = lent i me.rows.items c.as_mut_slice.result.now (length me.places.items) c.as_mut_slice.ensures.value me.ready in
    let was : c.count_offers.result ≡ Ok c.in_ok-count.count = search rules in
    let k = counted i c.args.cart (length c.as_mut_slice.result.now) (length me.places.items) ready c.requires.known c.in_ok-count.count (length os) (sym was ∙ c.count_offers.ensures.counted) in
    record {
      site = c.loop-number.invariant.0;
      added = (
        k.fits,
        cart_whole g.C.Text.text c.args.cart c.in_ok-count.count os (vec_items c.args.out.now) (vec_items c.extend_from_slice.new.self) (vec_items c.loop-number.out) c.as_bytes.result.now k.count
            (c.as_bytes.ensures.value ∙ c.in_ok-line.ensures.ok) c.in_ok-extend_from_slice.ensures.items
            (grown (offer_text g.C.Text.text) os (vec_items c.extend_from_slice.new.self) (vec_items c.loop-number.out) c.loop-number.number (omega (arith, c.loop-number-test.false, k.count)) c.loop-number.invariant.1),
      );
    }
