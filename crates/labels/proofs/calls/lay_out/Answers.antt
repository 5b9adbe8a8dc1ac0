use Rattle.std.proofs.Common.{length, arith}
use Rattle.carts.specs.Carts.{cart_of}
use Rattle.std.proofs.lemmas.List.{length-map}
use Rattle.labels.specs.Queries.{asked}
use Rattle.labels.proofs.Answering.{admitted}
use Rattle.labels.proofs.calls.lay_out.Goals as goal

pub fill_labels-requires : goal.fill_labels-requires
fill_labels-requires g c =
    let a = asked g.F.Floor.moves g.C.CostKind.kind g.B.Constrains.constraint c.args.query.now in
    let fit = admitted a (length c.args.rows.now) c.in_ok-admit.ensures in
    record { few = fit.few; known = omega (arith, fit.known, length-map c.args.query.now.carts.now cart_of); ticks = fit.ticks }
