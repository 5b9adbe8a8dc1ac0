-- The cost that is a sum, which stops at the largest number of 32 bits.
-- Assumes nothing.
use Rattle.std.specs.Prelude.{◌≡◌, ℕ, ◌+◌, ◌^◌, ◌<◌, min}
use mathlib.Core.HLevel.{is_prop→PathP}
use Rattle.std.proofs.Math.Bridge.{le_prop}
use Rattle.std.proofs.Common.{arith}
use Rattle.rules.specs.Kinds.{Kind}
use Rattle.costs.specs.Sizes.{by_size}
use Rattle.costs.specs.declared.total.Total.{Total}

pub total_same : (a b : Total) → a.value ≡ b.value → a ≡ b
total_same a b e = λ i. record { value = e i; fits = is_prop→PathP (λ j. e j < 2 ^ 32) (λ j. le_prop) a.fits b.fits i }

-- n, or the largest number where n is above it
abbrev pub capped : ℕ → Total
capped n = record { value = min n 4294967295; fits = omega arith }

abbrev pub total_kind : Kind Total
total_kind = by_size (λ c. c.value) (capped 0) (λ a b. capped (a.value + b.value))
