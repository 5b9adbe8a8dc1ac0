use Rattle.std.proofs.Common.{◌^◌, refl, arith}
use lib.Bits.{or_lt}
use Rattle.std.proofs.lemmas.Nat.{mod_below}
use Rattle.charts.proofs.TickSets.{more_has}
use Rattle.charts.proofs.ticks.Ticks.with.Goals as goal

pub invariant_of-result : goal.invariant_of-result
invariant_of-result c = record { fits = or_lt 64 c.args.self.bits _ c.args.self.fits (mod_below _ (2 ^ 64) (omega arith)) }

pub returns : goal.returns
returns c = more_has c.args.self _ c.args.tick (omega (arith, c.if-tick-gt63.false)) refl
