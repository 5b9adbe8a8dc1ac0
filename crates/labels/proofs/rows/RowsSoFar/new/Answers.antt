use Rattle.std.proofs.Common.{◌≡◌, ◌-◌, ap, ◌∙◌, length, take, drop, rules, tests}
use Rattle.std.proofs.lemmas.List.{take_rest}
use Rattle.labels.specs.declared.row.LabelRow.{LabelRow}
use Rattle.std.specs.Option.{option_map}
use Rattle.std.specs.List.{slice_get}
use Rattle.labels.proofs.Showing.{last_shown}
use Rattle.labels.proofs.rows.RowsSoFar.new.Goals as goal

pub returns-clause-last : goal.returns-clause-last
returns-clause-last g c =
    let k = g.C.CostKind.kind in
    let own = take (length c.args.rows.now - c.args.start) (drop c.args.start c.args.rows.now) in
    let e : c.map-last.result ≡ option_map (λ r. r.cost) (slice_get own (length own - 1)) = search (rules, tests) in
    e ∙ ap (λ l. option_map (λ (r : LabelRow g.row.C.Denot). r.cost) (slice_get l (length l - 1))) (take_rest c.args.rows.now c.args.start) ∙ last_shown k c.args.rows.now c.args.start
