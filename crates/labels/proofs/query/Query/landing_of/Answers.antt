use Rattle.std.proofs.Common.{sym, refl}
use Rattle.labels.specs.Queries.{asked}
use Rattle.labels.proofs.Tabling.{goal_at}
use Rattle.labels.proofs.query.Query.landing_of.Goals as goal

pub returns : goal.returns
returns g c =
    let a = asked g.F.Floor.moves g.C.CostKind.kind g.B.Constrains.constraint c.args.self.now in
    record {
      first = c.stands_from.ensures;
      horizon = refl;
      goal = sym (goal_at c.args.self.now.carts.now a.cart (record { start = 0; goal = 0 }) c.requires);
      places = c.places.ensures;
    }
