use Rattle.std.proofs.Common.{◌∷◌, [], length, set, sym, ap, ◌∙◌, subst, arith}
use Rattle.sites.specs.declared.records.Record.{Record}
use Rattle.sites.specs.Records.{Fitting}
use Rattle.sites.specs.Sites.{back, lanes_in, tariff_in}
use Rattle.sites.specs.Writing.{put}
use Rattle.sites.proofs.Filling.{put_one, put_two}
use Rattle.sites.proofs.Printing.{cost_same}
use Rattle.sites.proofs.writing.write_record.Goals as goal

pub returns-in-Lane-clause-lanes : goal.returns-in-Lane-clause-lanes
returns-in-Lane-clause-lanes c =
    let table = c.args.lanes.now.table.now in
    let n = c.args.lanes.now.count in
    let wanted = ap (λ (r : Record). length (lanes_in r)) c.in-Lane.is in
    let room = c.requires.lanes in
    (c.push.ensures.row ∙ put_one table n c.in-Lane.row (omega arith) ∙ ap (λ (r : Record). put table n (lanes_in r)) (sym c.in-Lane.is), omega arith)

pub returns-in-BothLanes-clause-lanes : goal.returns-in-BothLanes-clause-lanes
returns-in-BothLanes-clause-lanes c =
    let table = c.args.lanes.now.table.now in
    let n = c.args.lanes.now.count in
    let row = c.in-BothLanes.row in
    let first = c.push-in-BothLanes.ensures in
    let second = c.push-in-BothLanes-2.ensures in
    let wanted = ap (λ (r : Record). length (lanes_in r)) c.in-BothLanes.is in
    let room = c.requires.lanes in (
      second.row ∙ (λ i. set (first.row i) (first.count i) (c.back.ensures i)) ∙ put_two table n row (back row) (omega arith) ∙ ap (λ (r : Record). put table n (lanes_in r)) (sym c.in-BothLanes.is),
      omega arith,
    )

pub returns-in-Tariff-clause-tariff : goal.returns-in-Tariff-clause-tariff
returns-in-Tariff-clause-tariff c =
    let table = c.args.tariff.now.table.now in
    let n = c.args.tariff.now.count in
    let wanted = ap (λ (r : Record). length (tariff_in r)) c.in-Tariff.is in
    let room = c.requires.tariff in
    let fits = subst Fitting c.in-Tariff.is c.requires.fitting in
    (c.push-in-Tariff.ensures.row ∙ put_one table n _ (omega arith) ∙ ap (λ x. put table n (x ∷ [])) (sym (cost_same _ fits.0 fits.1.0)) ∙ ap (λ (r : Record). put table n (tariff_in r)) (sym c.in-Tariff.is), omega arith)
