use Rattle.costs.specs.TextLaws.{apart}
use Rattle.costs.proofs.promises.texts_apart.Goals as goal

pub returns : goal.returns
returns g c = apart g.met.C.Text.texts
