-- Carts and constraints as the code holds them, and which of the rules' each one means.
-- Assumes nothing.
use Rattle.rules.specs.Instances.{Cart as CartMeant}
use Rattle.rules.specs.Walks.{Constraint as Rule, vertex, edge}
use Rattle.carts.specs.declared.cart.Cart.{Cart}
use Rattle.carts.specs.declared.constraint.Constraint.{Constraint}
use Rattle.carts.specs.declared.constraint.Constraint.TheVariants.{Vertex, Edge}

abbrev pub cart_of : Cart → CartMeant
cart_of c = record { start = c.start; goal = c.goal }

abbrev pub constraint_of : Constraint → Rule
constraint_of (Vertex c p t) = vertex c p t
constraint_of (Edge c u v t) = edge c u v t
