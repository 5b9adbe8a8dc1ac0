use Rattle.std.proofs.Common.{not, sym, ap, ◌∙◌}
use Rattle.labels.specs.Queries.{asked}
use Rattle.labels.proofs.Seeking.{quiet_place}
use Rattle.labels.proofs.query.Query.may_be.Goals as goal

pub returns-then-not-busy : goal.returns-then-not-busy
returns-then-not-busy g c =
    let a = asked g.F.Floor.moves g.C.CostKind.kind g.B.Constrains.constraint c.args.self.now in
    let free = c.if-not-busy.true in
    ap not (free ∙ sym (quiet_place a.cart c.args.tick c.args.place a.constraints (sym c.requires ∙ free)))
