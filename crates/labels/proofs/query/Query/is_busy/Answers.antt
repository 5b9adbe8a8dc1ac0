use Rattle.std.proofs.Common.{rules, tests}
use Rattle.labels.specs.Seeking.{names}
use Rattle.labels.proofs.query.Query.is_busy.Goals as goal

pub returns : goal.returns
returns g c =
    let q = c.args.self.now in
    c.some.ensures (names q.cart c.args.tick) (λ x b p. search (rules, tests))
