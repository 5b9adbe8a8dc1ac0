use Rattle.costs.proofs.ZonesAreSets.{are_sets}
use Rattle.costs.proofs.promises.zones_are_sets.Goals as goal

pub returns : goal.returns
returns c = are_sets
