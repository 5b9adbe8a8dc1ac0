use Rattle.std.proofs.Common.{ap, not, rules, tests}
use Rattle.rules.specs.Walks.{forbids_place}
use Rattle.labels.proofs.query.Query.is_free.Goals as goal

pub returns : goal.returns
returns g c =
    let q = c.args.self.now in
    ap not (c.some.ensures (forbids_place q.cart c.args.place c.args.tick) (λ x b p. search (rules, tests)))
