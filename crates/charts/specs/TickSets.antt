-- Sets of ticks, one to each bit of a number.
-- Assumes nothing.
use Rattle.std.specs.Prelude.{ℕ, ◌/◌, ◌%◌, ◌^◌, Bool, ◌==◌}
use Rattle.std.proofs.Common.{arith}
use Rattle.charts.specs.declared.ticks.Ticks.{Ticks}

-- tick t is in the set: bit t of its number is one
unfoldable pub has : Ticks → ℕ → Bool
has s t = s.bits / 2 ^ t % 2 == 1

abbrev pub no_ticks : Ticks
no_ticks = record { bits = 0; fits = omega arith }
