use Rattle.std.proofs.Common.{◌+◌, ◌||◌, map, drop, sym, ap, ◌∙◌}
use Rattle.rules.specs.Walks.{any_of}
use Rattle.labels.proofs.Seeking.{looked, looked_all}
use Rattle.labels.proofs.constraints.some.Goals as goal

pub returns-then-test : goal.returns-then-test
returns-then-test g c = λ passes is.
    let rule = g.B.Constrains.constraint in
    let bs = c.args.constraints.now in
    let i = c.loop-held.held-index in
    let here = is c.constraint.result _ c.if-test.ensures ∙ ap passes (c.constraint.ensures ∙ ap rule c.held-item.is) in
    ap (λ x. x || any_of passes (map rule (drop (i + 1) bs))) here ∙ sym (looked passes rule bs i c.held-item.result c.loop-held-test.true) ∙ c.loop-held.invariant passes is

pub loop-held-preserved : goal.loop-held-preserved
loop-held-preserved g c = λ passes is.
    let rule = g.B.Constrains.constraint in
    let bs = c.args.constraints.now in
    let i = c.loop-held.held-index in
    let here = is c.constraint.result _ c.if-test.ensures ∙ ap passes (c.constraint.ensures ∙ ap rule c.held-item.is) in
    ap (λ x. x || any_of passes (map rule (drop (i + 1) bs))) here ∙ sym (looked passes rule bs i c.held-item.result c.loop-held-test.true) ∙ c.loop-held.invariant passes is

pub returns : goal.returns
returns g c = λ passes is.
    sym (looked_all passes g.B.Constrains.constraint c.args.constraints.now c.loop-held.held-index c.loop-held-test.false) ∙ c.loop-held.invariant passes is
