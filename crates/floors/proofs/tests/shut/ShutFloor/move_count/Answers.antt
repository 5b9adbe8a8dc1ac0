use Rattle.std.proofs.Common.{length, sym, ap}
use Rattle.floors.specs.Shut.{shut_place}
use Rattle.floors.proofs.tests.shut.ShutFloor.move_count.Goals as goal

pub returns-then-place-self : goal.returns-then-place-self
returns-then-place-self g c = sym (ap length (shut_place _ _ _ c.if-place-self.true))
