-- What is printed of a price list.
-- Assumes nothing.
use Rattle.std.specs.Prelude.{ℕ, List, ◌++◌, length, codes, decimal}
use Rattle.prices.specs.PriceLists.{said}

abbrev pub tally_text : ℕ → ℕ → List ℕ
tally_text count read = codes "kept " ++ (decimal count ++ (codes " of " ++ (decimal read ++ codes "\n")))

-- the costs that are kept, each as its text on a line of its own, and then how many are kept of how many were read
abbrev pub page : {C : Type 0} → (C → List ℕ) → List C → ℕ → List ℕ
page text kept read = said text kept ++ tally_text (length kept) read
