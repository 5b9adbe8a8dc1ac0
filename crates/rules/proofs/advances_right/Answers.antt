use Rattle.rules.proofs.advances_right.Goals as goal
use Rattle.rules.proofs.Advances.{advances_right}

pub returns : goal.returns
returns g c = advances_right
