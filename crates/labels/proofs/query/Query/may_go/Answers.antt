use Rattle.std.proofs.Common.{not, sym, ap, ◌∙◌, rules, tests}
use Rattle.rules.specs.Walks.{forbids_move}
use Rattle.labels.specs.Queries.{asked}
use Rattle.labels.proofs.Seeking.{quiet_move}
use Rattle.labels.proofs.query.Query.may_go.Goals as goal

pub returns-then-not-barred : goal.returns-then-not-barred
returns-then-not-barred g c =
    let a = asked g.F.Floor.moves g.C.CostKind.kind g.B.Constrains.constraint c.args.self.now in
    let free = c.if-not-barred.true in
    ap not (free ∙ sym (quiet_move a.cart c.args.tick c.args.from c.args.to a.constraints (sym c.requires ∙ free)))

pub returns-else-not-barred : goal.returns-else-not-barred
returns-else-not-barred g c =
    let q = c.args.self.now in
    ap not (c.some.ensures (forbids_move q.cart c.args.from c.args.to c.args.tick) (λ x b p. search (rules, tests)))
