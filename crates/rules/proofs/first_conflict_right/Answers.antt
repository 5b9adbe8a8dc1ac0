use Rattle.rules.proofs.first_conflict_right.Goals as goal
use Rattle.rules.proofs.Conflicts.{first_conflict_right}

pub returns : goal.returns
returns c = first_conflict_right
