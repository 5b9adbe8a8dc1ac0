use Rattle.std.proofs.Common.{◌≡◌, ◌+◌, Some, length, ap, arith}
use Rattle.labels.specs.Choices.{offers_left}
use Rattle.labels.proofs.Offering.{over, taken}
use Rattle.labels.proofs.offers.OffersIterator.next.Goals as goal

pub returns-in_err-offer-clause-steps : goal.returns-in_err-offer-clause-steps
returns-in_err-offer-clause-steps g c = let none = over g.C.CostKind.kind g.met.C.CostKind.laws c.args.self.now c.in_err-offer.ensures in rw c.from_residual.ensures (none, none)

pub returns-clause-steps : goal.returns-clause-steps
returns-clause-steps g c = taken g.C.CostKind.kind g.met.C.CostKind.laws c.args.self.now c.in_ok-offer.offer c.in_ok-offer.ensures

pub returns-clause-goes : goal.returns-clause-goes
returns-clause-goes g c =
    let k = g.C.CostKind.kind in
    let rest = offers_left k (record { arrivals = c.args.self.now.arrivals; last = Some c.in_ok-offer.offer.cost }) in
    let one : length (offers_left k c.args.self.now) ≡ length rest + 1 = omega (arith, ap length (taken k g.met.C.CostKind.laws c.args.self.now c.in_ok-offer.offer c.in_ok-offer.ensures)) in
    record { on = λ _. (tt, tt, omega (arith, one)); keeps = tt; rests = λ _. tt }
