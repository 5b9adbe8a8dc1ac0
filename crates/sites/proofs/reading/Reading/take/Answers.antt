use Rattle.std.proofs.Common.{sym, subst}
use Rattle.sites.specs.declared.records.Record.{Record}
use Rattle.sites.specs.Holding.{Took}
use Rattle.sites.proofs.NextRecord.{cart_took}
use Rattle.sites.proofs.reading.Reading.take.Goals as goal

pub returns-in-Cart : goal.returns-in-Cart
returns-in-Cart c before k =
    let P : Record → Type 0 = λ r. Took c.args.rooms before r c.add_cart.result in
    subst P (sym c.in-Cart.is)
    (cart_took c.args.rooms before c.args.self k c.in-Cart.start c.in-Cart.goal c.add_cart.result c.add_cart.ensures.taken c.add_cart.ensures.kept)
