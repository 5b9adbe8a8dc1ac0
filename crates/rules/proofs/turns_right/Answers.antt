use Rattle.rules.proofs.turns_right.Goals as goal
use Rattle.rules.proofs.Turns.{turns_right}

pub returns : goal.returns
returns g c = turns_right
