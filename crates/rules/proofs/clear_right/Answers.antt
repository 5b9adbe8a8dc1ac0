use Rattle.rules.proofs.clear_right.Goals as goal
use Rattle.rules.proofs.Plans.{clear_right}

pub returns : goal.returns
returns g c = clear_right
