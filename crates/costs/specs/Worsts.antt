-- The cost that is the largest of its parts.
-- Assumes nothing.
use Rattle.std.specs.Prelude.{◌≡◌, ◌^◌, ◌<◌, max}
use mathlib.Core.HLevel.{is_prop→PathP}
use Rattle.std.proofs.Math.Bridge.{le_prop}
use Rattle.std.proofs.Common.{arith}
use Rattle.rules.specs.Kinds.{Kind}
use Rattle.costs.specs.Sizes.{by_size}
use Rattle.costs.specs.declared.worst.Worst.{Worst}

pub worst_same : (a b : Worst) → a.value ≡ b.value → a ≡ b
worst_same a b e = λ i. record { value = e i; fits = is_prop→PathP (λ j. e j < 2 ^ 16) (λ j. le_prop) a.fits b.fits i }

abbrev pub no_worst : Worst
no_worst = record { value = 0; fits = omega arith }

abbrev pub larger : Worst → Worst → Worst
larger a b = record { value = max a.value b.value; fits = omega arith }

abbrev pub worst_kind : Kind Worst
worst_kind = by_size (λ c. c.value) no_worst larger
