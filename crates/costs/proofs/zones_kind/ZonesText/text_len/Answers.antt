use Rattle.std.proofs.Common.{rules}
use Rattle.costs.proofs.Puts.{length_zones}
use Rattle.costs.proofs.zones_kind.ZonesText.text_len.Goals as goal

pub returns : goal.returns
returns c = let long = length_zones c.args.self.now in search rules
