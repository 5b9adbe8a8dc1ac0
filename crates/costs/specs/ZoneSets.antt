-- The cost that is a set of zones, one to each bit of a number: its kind, its text, and what both say of the zones.
-- Assumes nothing.
use Rattle.std.specs.Prelude.{◌≡◌, ℕ, zero, suc, ◌+◌, ◌/◌, ◌%◌, ◌^◌, ◌<◌, ◌⊎◌, List, ◌∷◌, ◌++◌, decimal, ◌==◌, bit_or, count_ones, nat_lt}
use mathlib.Core.HLevel.{is_prop→PathP}
use Rattle.std.proofs.Math.Bridge.{le_prop}
use Rattle.std.proofs.Common.{arith}
use Rattle.std.proofs.lemmas.Nat.{or_lt}
use Rattle.rules.specs.Kinds.{Kind, AtMost}
use Rattle.costs.specs.Texts.{hex_digits}
use Rattle.costs.specs.declared.zones.Zones.{Zones}

pub zones_same : (a b : Zones) → a.bits ≡ b.bits → a ≡ b
zones_same a b e = λ i. record { bits = e i; fits = is_prop→PathP (λ j. e j < 2 ^ 64) (λ j. le_prop) a.fits b.fits i }

abbrev pub no_zones : Zones
no_zones = record { bits = 0; fits = omega arith }

abbrev pub union : Zones → Zones → Zones
union a b = record { bits = bit_or a.bits b.bits; fits = or_lt 64 a.bits b.bits a.fits b.fits }

-- one is at most another that it adds nothing to
abbrev pub zones_kind : Kind Zones
zones_kind =
    record {
      zero = no_zones;
      join = union;
      at_most = λ a b. (bit_or a.bits b.bits == b.bits);
      before = λ a b. nat_lt a.bits b.bits;
    }

-- how many zones, a stroke, and which
abbrev pub zones_text : Zones → List ℕ
zones_text z = decimal (count_ones z.bits) ++ (47 ∷ hex_digits 16 z.bits)

-- the zone with this number is in the set
abbrev pub In : ℕ → Zones → Type 0
In zone z = z.bits / 2 ^ zone % 2 ≡ 1

-- how many of the zones below n are in the set
abbrev pub count_below : ℕ → Zones → ℕ
count_below zero z = 0
count_below (suc n) z = z.bits / 2 ^ n % 2 + count_below n z

-- The kind and its text in terms of zones: zero has none, a join has those of both, at most is subset, and the count in the text is that of the zones.
pub record AreSets : Type 0 where
  pub none : (zone : ℕ) → In zone zones_kind.zero → ⊥
  pub joined : (a b : Zones) (zone : ℕ) → In zone (zones_kind.join a b) → In zone a ⊎ In zone b
  pub from_first : (a b : Zones) (zone : ℕ) → In zone a → In zone (zones_kind.join a b)
  pub from_second : (a b : Zones) (zone : ℕ) → In zone b → In zone (zones_kind.join a b)
  pub subset : (a b : Zones) → AtMost zones_kind a b → (zone : ℕ) → In zone a → In zone b
  pub from_subset : (a b : Zones) → ((zone : ℕ) → zone < 64 → In zone a → In zone b) → AtMost zones_kind a b
  pub counted : (z : Zones) → count_ones z.bits ≡ count_below 64 z
