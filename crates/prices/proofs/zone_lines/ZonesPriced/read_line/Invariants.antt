use Rattle.std.proofs.Common.{◌≡◌, ◌^◌, ◌<◌, take}
use Rattle.costs.specs.Texts.{hex_digits}
use Rattle.prices.proofs.zone_lines.ZonesPriced.read_line.Given as goal

-- the bits so far are what the bytes so far write
abbrev pub invariant-loop-b : goal.invariant-loop-b
invariant-loop-b l = (take l.b-index l.bytes ≡ hex_digits l.b-index l.bits) × (l.bits < 16 ^ l.b-index)
