use Rattle.std.proofs.Common.{rules}
use lib.Bits.{or_lt}
use Rattle.costs.proofs.zones_kind.ZonesCostKind.join.Goals as goal

pub invariant_of-result : goal.invariant_of-result
invariant_of-result c = record { fits = search (rules, or_lt) }
