use Rattle.std.proofs.Common.{refl}
use Rattle.charts.proofs.TickSets.{all_none}
use Rattle.charts.proofs.chart.Chart.blank.Goals as goal

pub returns : goal.returns
returns c = record { shut = refl; closed = all_none 1024 c.none.result c.none.ensures }
