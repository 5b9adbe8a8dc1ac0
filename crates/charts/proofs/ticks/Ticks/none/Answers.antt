use Rattle.std.proofs.Common.{refl}
use Rattle.charts.proofs.TickSets.{none_has}
use Rattle.charts.proofs.ticks.Ticks.none.Goals as goal

pub returns : goal.returns
returns c = none_has _ refl
