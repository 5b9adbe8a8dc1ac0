use Rattle.rules.specs.Fronts.{front_of}
use Rattle.labels.specs.Choices.{arrived}
use Rattle.labels.proofs.Offering.{all_left}
use Rattle.labels.proofs.arrivals.Arrivals.offers.Goals as goal

pub returns : goal.returns
returns g c = all_left (front_of g.C.CostKind.kind (arrived c.args.self.now))
