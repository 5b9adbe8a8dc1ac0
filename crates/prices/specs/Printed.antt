-- What `front` prints, from the name of the list and the input alone.
-- Assumes nothing.
use Rattle.std.specs.Prelude.{◌≡◌, ℕ, List, Err, codes, ◌≢◌}
use Rattle.costs.specs.Pairs.{pair_kind}
use Rattle.costs.specs.Totals.{total_kind}
use Rattle.costs.specs.Worsts.{worst_kind}
use Rattle.costs.specs.ZoneSets.{zones_kind, zones_text}
use Rattle.prices.specs.declared.refusal.Fault.TheVariants.{UnknownList}
use Rattle.prices.specs.CostLines.{cost_line, CostLarge}
use Rattle.prices.specs.ZoneLines.{zones_line, none_large}
use Rattle.prices.specs.PriceLists.{OneReading}
use Rattle.prices.specs.Refusals.{refusal_text}
use Rattle.prices.specs.Answers.{Output, Answers, PageExactly}

-- `costs` is a list of a total and a worst, which are printed as they are read; `zones` is one of zone sets; there is no other.
pub data Printed (name input : List ℕ) (out : Output) : Type 0 where
  of_costs : name ≡ codes "costs" → Answers cost_line CostLarge cost_line (pair_kind total_kind worst_kind) input out → Printed name input out
  of_zones : name ≡ codes "zones" → Answers zones_line none_large zones_text zones_kind input out → Printed name input out
  of_none : (name ≢ codes "costs") → (name ≢ codes "zones") → out ≡ Err (refusal_text (record { line = 0; fault = UnknownList })) → Printed name input out

abbrev pub OneReadings : Type 0
OneReadings = OneReading cost_line CostLarge × OneReading zones_line none_large

abbrev pub PagesExactly : Type 0
PagesExactly = PageExactly cost_line CostLarge cost_line (pair_kind total_kind worst_kind) × PageExactly zones_line none_large zones_text zones_kind

-- for each name and input there is only one thing to print
abbrev pub OnePrint : Type 0
OnePrint = (name input : List ℕ) (a b : Output) → Printed name input a → Printed name input b → a ≡ b
