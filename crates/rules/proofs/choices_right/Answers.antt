use Rattle.rules.proofs.choices_right.Goals as goal
use Rattle.rules.proofs.Serving.{choices_right}

pub returns : goal.returns
returns g c = choices_right
