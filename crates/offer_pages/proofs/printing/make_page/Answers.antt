use Rattle.std.proofs.Common.{refl, ◌∙◌, rules}
use Rattle.std.proofs.lemmas.Result.{err_from_is_err_and}
use Rattle.offer_pages.proofs.Opening.{unread, opened, page_read}
use Rattle.offer_pages.proofs.printing.make_page.Goals as goal

pub returns-in_err-site : goal.returns-in_err-site
returns-in_err-site c =
    let p = err_from_is_err_and c.from_residual.result c.from_residual.ensures.1 in
    rw (p.1, p.2)
    (unread c.args.bytes.now _ _ c.read_site.result _ c.in_err-site.field-0.0 refl refl refl c.read_site.ensures c.in_err-site.ensures.cases (λ e says. search rules))

pub returns : goal.returns
returns c =
    let read = opened c.args.bytes.now _ _ c.read_site.result _ c.in_ok-site.site c.read_site.ensures c.in_ok-site.ensures.cases c.in_ok-site.ensures.variant in
    page_read c.args.bytes.now _ _ c.in_ok-site.site c.page_of.result c.from.result c.horizon.result read
    refl refl refl (c.from.ensures ∙ c.carts.ensures ∙ read.holds.carts) (c.horizon.ensures ∙ read.holds.horizon) c.page_of.ensures
