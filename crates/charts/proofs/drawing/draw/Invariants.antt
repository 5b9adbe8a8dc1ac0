use Rattle.std.proofs.Common.{map, take}
use Rattle.rules.specs.Walks.{forbids_place, forbids_move, any_of}
use Rattle.charts.specs.Charts.{Barred}
use Rattle.charts.proofs.drawing.draw.Given as goal

abbrev pub invariant-loop-constraint : goal.invariant-loop-constraint
invariant-loop-constraint g l =
    let seen = map g.B.Constrains.constraint (take l.constraint-index l.constraints) in
    Barred l.initial.marks l.marks (λ p t. any_of (forbids_place l.cart p t) seen) (λ u p t. any_of (forbids_move l.cart u p t) seen)
