-- Costs that are compared by size.
-- Assumes nothing.
use Rattle.std.specs.Prelude.{ℕ, nat_le, nat_lt}
use Rattle.rules.specs.Kinds.{Kind}

-- at most, and the order, are those of the sizes
abbrev pub by_size : {C : Type 0} → (C → ℕ) → C → (C → C → C) → Kind C
by_size size zero join =
    record { zero = zero; join = join; at_most = λ a b. nat_le (size a) (size b); before = λ a b. nat_lt (size a) (size b) }
