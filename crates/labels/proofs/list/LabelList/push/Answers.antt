use Rattle.std.proofs.Common.{◌<◌, length, refl, arith}
use Rattle.std.proofs.lemmas.List.{length-set}
use Rattle.labels.proofs.Tabling.{grown_one}
use Rattle.labels.proofs.list.LabelList.push.Goals as goal

pub returns : goal.returns
returns g c =
    let was = c.args.self.now in
    let lt : was.count < length was.rows.now = omega (arith, was.within, c.if-self.false) in
    record { lends = record { same = refl; long = length-set was.rows.now was.count c.args.row }; more = grown_one was.rows.now was.count c.args.row lt }
