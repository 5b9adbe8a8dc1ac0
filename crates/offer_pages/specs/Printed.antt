-- What `offers` prints, from the site's text alone.
-- Assumes nothing.
use Rattle.std.specs.Prelude.{◌≡◌, ℕ, List}
use Rattle.offer_pages.specs.declared.fault.Fault.{Fault}
use Rattle.offer_pages.specs.Faults.{fault_text}
use Rattle.offer_pages.specs.Pages.{FaultOf, PageOf}

-- the page of every cart's offers, or one line on the first check that fails
pub data Printed (bytes out : List ℕ) : Type 0 where
  page : PageOf bytes out → Printed bytes out
  refusal : (fault : Fault) → FaultOf bytes fault → out ≡ fault_text fault → Printed bytes out

-- for each input there is only one thing to print
abbrev pub OnePrint : Type 0
OnePrint = (bytes a b : List ℕ) → Printed bytes a → Printed bytes b → a ≡ b
