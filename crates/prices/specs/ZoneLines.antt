-- The lines of a list of zone sets: sixteen digits to the base 16, in lower case.
-- Assumes nothing.
use Rattle.std.specs.Prelude.{◌≡◌, ℕ, ◌<◌, List, Some, None, Option, ◌≢◌}
use Rattle.costs.specs.Texts.{hex_digit, hex_digits}
use Rattle.costs.specs.declared.zones.Zones.{Zones}

abbrev pub zones_line : Zones → List ℕ
zones_line z = hex_digits 16 z.bits

-- sixteen digits never say more than a set of zones can hold
abbrev pub none_large : List ℕ → Type 0
none_large bs = ⊥

-- which digit the byte is, if any
abbrev pub HexRead : ℕ → Option ℕ → Type 0
HexRead b (Some d) = (d < 16) × (b ≡ hex_digit d)
HexRead b None = (d : ℕ) → d < 16 → b ≢ hex_digit d
