use Rattle.std.proofs.Common.{sym, ◌∙◌, rules, tests}
use Rattle.labels.specs.Seeking.{leads_to}
use Rattle.labels.specs.Queries.{asked}
use Rattle.labels.proofs.Seeking.{quiet_to}
use Rattle.labels.proofs.query.Query.is_barred.Goals as goal

pub returns-else-busy : goal.returns-else-busy
returns-else-busy g c =
    let a = asked g.F.Floor.moves g.C.CostKind.kind g.B.Constrains.constraint c.args.self.now in
    let free = c.if-busy.false in
    free ∙ sym (quiet_to a.cart c.args.tick c.args.to a.constraints (sym c.requires ∙ free))

pub returns-then-busy : goal.returns-then-busy
returns-then-busy g c =
    let q = c.args.self.now in
    c.some.ensures (leads_to q.cart c.args.to c.args.tick) (λ x b p. search (rules, tests))
