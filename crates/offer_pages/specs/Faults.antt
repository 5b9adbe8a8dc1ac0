-- Why there is no page, in one line.
-- Assumes nothing.
use Rattle.std.specs.Prelude.{ℕ, List, [], ◌∷◌, ◌++◌, codes, decimal, slice_index}
use Rattle.sites.specs.Refusals.{refusal_numbers}
use Rattle.offer_pages.specs.declared.fault.Fault.{Fault}
use Rattle.offer_pages.specs.declared.fault.Fault.TheVariants.{Unread, NoCart, OffFloor, NoLine, ManyLabels}

-- the refusal's number, the line that is not read, the number of the refusal that it carries, and that one's row; 0 where there is none
abbrev pub fault_numbers : Fault → List ℕ
fault_numbers (Unread e) = refusal_numbers e
fault_numbers NoCart = 8 ∷ (0 ∷ (0 ∷ (0 ∷ [])))
fault_numbers OffFloor = 9 ∷ (0 ∷ (0 ∷ (0 ∷ [])))
fault_numbers NoLine = 10 ∷ (0 ∷ (0 ∷ (0 ∷ [])))
fault_numbers ManyLabels = 14 ∷ (0 ∷ (0 ∷ (0 ∷ [])))

-- four numbers in a line
abbrev pub refusal_line : ℕ → ℕ → ℕ → ℕ → List ℕ
refusal_line number line carried row =
    codes "RF " ++ (decimal number ++ (codes " " ++ (decimal line ++ (codes " " ++ (decimal carried ++ (codes " " ++ (decimal row ++ codes "\n")))))))

abbrev pub fault_text : Fault → List ℕ
fault_text f = let ns = fault_numbers f in refusal_line (slice_index ns 0) (slice_index ns 1) (slice_index ns 2) (slice_index ns 3)
