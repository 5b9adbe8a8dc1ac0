use Rattle.std.proofs.Common.{◌≡◌, Bool, map, drop}
use Rattle.rules.specs.Walks.{Constraint as Rule, any_of}
use Rattle.carts.specs.Carts.{constraint_of}
use Rattle.carts.specs.declared.constraint.Constraint.{Constraint}
use Rattle.labels.proofs.constraints.some.Given as goal

abbrev pub invariant-loop-held : goal.invariant-loop-held
invariant-loop-held g l =
    let rule = g.B.Constrains.constraint in
    (passes : Rule → Bool) → ((x : Constraint) (b : Bool) → goal.P-post g l.test x b → b ≡ passes (constraint_of x)) → any_of passes (map rule (drop l.held-index l.constraints)) ≡ any_of passes (map rule l.constraints)
