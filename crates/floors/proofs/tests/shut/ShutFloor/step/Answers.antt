use Rattle.std.proofs.Common.{sym, ap}
use lib.ListN.{get_elem?}
use Rattle.floors.specs.Shut.{shut_place}
use Rattle.floors.proofs.tests.shut.ShutFloor.step.Goals as goal

pub returns-then-place-self : goal.returns-then-place-self
returns-then-place-self g c = sym (ap (λ ms. get_elem? ms c.args.number) (shut_place _ _ _ c.if-place-self.true))
