use Rattle.labels.specs.Queries.{asked}
use Rattle.labels.proofs.Answering.{solved_lands, solved_offers}
use Rattle.labels.proofs.calls.arrivals_of.Goals as goal

pub invariant_of-result : goal.invariant_of-result
invariant_of-result g c =
    let a = asked g.F.Floor.moves g.C.CostKind.kind g.B.Constrains.constraint c.args.query.now in
    record { lands = solved_lands a c.landing_of.result c.landing_of.ensures c.args.rows.now c.args.starts.now c.args.end c.requires (g.met.F.Floor.bounds c.args.query.now.floor.now).few_places c.told-starts }

pub returns : goal.returns
returns g c =
    let a = asked g.F.Floor.moves g.C.CostKind.kind g.B.Constrains.constraint c.args.query.now in
    record { at = c.landing_of.ensures; offers = solved_offers a c.landing_of.result c.landing_of.ensures c.args.rows.now c.args.starts.now c.args.end c.requires }
