use Rattle.std.proofs.Common.{sym, ◌∙◌}
use Rattle.std.proofs.lemmas.Bool.{le-ltb}
use Rattle.charts.proofs.TickSets.{bit_has, high_has}
use Rattle.charts.proofs.ticks.Ticks.has.Goals as goal

pub returns-then-tick-lt64 : goal.returns-then-tick-lt64
returns-then-tick-lt64 c = bit_has c.args.self c.args.tick

pub returns-else-tick-lt64 : goal.returns-else-tick-lt64
returns-else-tick-lt64 c = le-ltb c.args.tick 64 c.if-tick-lt64.false ∙ sym (high_has c.args.self c.args.tick c.if-tick-lt64.false)
