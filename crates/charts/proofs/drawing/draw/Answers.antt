use Rattle.std.proofs.Common.{◌≡◌, ℕ, ◌+◌, Bool, ◌||◌, map, take, refl, sym, ap, ◌∙◌, arith}
use Rattle.std.proofs.lemmas.List.{take_all}
use Rattle.rules.specs.Walks.{Constraint, forbids_place, forbids_move, any_of}
use Rattle.carts.specs.Carts.{constraint_of}
use Rattle.charts.proofs.Marking.{any_of_more, barred_more, barred_drawn}
use Rattle.charts.proofs.drawing.draw.Goals as goal

pub invariant_of-marks-clause-few : goal.invariant_of-marks-clause-few
invariant_of-marks-clause-few g c = omega (arith, c.places.ensures, (g.met.F.Floor.bounds c.args.floor.now).few_places)

pub invariant_of-marks-clause-rising : goal.invariant_of-marks-clause-rising
invariant_of-marks-clause-rising g c = λ p lt. (c.fill.ensures.indexed p (omega (arith, c.places.ensures))).up

pub invariant_of-marks-clause-within : goal.invariant_of-marks-clause-within
invariant_of-marks-clause-within g c = λ p lt. (c.fill.ensures.indexed p (omega (arith, c.places.ensures))).within

pub loop-constraint-preserved : goal.loop-constraint-preserved
loop-constraint-preserved g c =
    let rule = g.B.Constrains.constraint in
    let cs = c.args.constraints.now in
    let i = c.loop-constraint.constraint-index in
    let seen = λ (j : ℕ). map rule (take j cs) in
    let here = constraint_of c.constraint.result in
    let cart = c.args.cart in
    let step : (f : Constraint → Bool) → any_of f (seen (i + 1)) ≡ (any_of f (seen i) || f here) = λ f.
    any_of_more rule cs i c.constraint-item.result c.loop-constraint-test.true f ∙ ap (λ x. any_of f (seen i) || f x) (sym (c.constraint.ensures ∙ ap rule c.constraint-item.is))
    in
    barred_more _ c.loop-constraint.marks c.add.new.self
    (λ p t. any_of (forbids_place cart p t) (seen i)) (λ p t. forbids_place cart p t here) (λ p t. any_of (forbids_place cart p t) (seen (i + 1)))
    (λ u p t. any_of (forbids_move cart u p t) (seen i)) (λ u p t. forbids_move cart u p t here) (λ u p t. any_of (forbids_move cart u p t) (seen (i + 1)))
    (λ p t. step (forbids_place cart p t)) (λ u p t. step (forbids_move cart u p t)) c.loop-constraint.invariant c.add.ensures

pub returns : goal.returns
returns g c =
    let rule = g.B.Constrains.constraint in
    let cs = c.args.constraints.now in
    let i = c.loop-constraint.constraint-index in
    barred_drawn (g.F.Floor.moves c.args.floor.now) (map rule (take i cs)) (map rule cs) c.args.cart c.args.chart.now _ _ c.loop-constraint.marks (ap (map rule) (take_all i cs c.loop-constraint-test.false)) c.places.ensures refl c.fill.ensures.indexed c.fill.ensures.held
    refl refl refl refl c.loop-constraint.invariant
