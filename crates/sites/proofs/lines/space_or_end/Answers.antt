use Rattle.std.proofs.Common.{eqb, rules, tests, ◌∙◌}
use Rattle.std.proofs.lemmas.Iterator.{YieldsList-from_slice}
use Rattle.std.proofs.lemmas.Iterator.Search.{position_from_yields_List}
use Rattle.sites.proofs.LineReads.{space_found, space_within}
use Rattle.sites.proofs.lines.space_or_end.Goals as goal

pub returns : goal.returns
returns c =
    let at = position_from_yields_List (λ x. eqb x 32) _ _ c.position.result c.position.ensures.ran (YieldsList-from_slice c.args.bytes.now cc) (λ x b q k. search (rules, tests)) in
    let found = c.unwrap_or.ensures ∙ space_found c.args.bytes.now c.position.result at in
    let within = space_within c.args.bytes.now in
    record { within = search rules; first = found }
