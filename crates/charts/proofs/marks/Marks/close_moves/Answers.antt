use Rattle.std.proofs.Common.{refl, rules}
use Rattle.charts.proofs.Marking.{barred_moves}
use Rattle.charts.proofs.marks.Marks.close_moves.Goals as goal

pub returns : goal.returns
returns c = barred_moves c.args.self.now c.args.from c.args.to c.args.tick (search rules) (search rules) _ c.close_from.new.closed refl refl refl refl (search rules) (search rules) (search rules)
