-- Why no page is printed, in one line.
-- Assumes nothing.
use Rattle.std.specs.Prelude.{ℕ, List, ◌++◌, codes, decimal}
use Rattle.digits.specs.declared.numbers.ReadFault.TheVariants.{Malformed, TooLarge}
use Rattle.prices.specs.declared.refusal.Fault.{Fault}
use Rattle.prices.specs.declared.refusal.Fault.TheVariants.{Line, NoNewline, TooManyBytes, UnknownList}
use Rattle.prices.specs.declared.refusal.Refusal.{Refusal}

abbrev pub fault_text : Fault → List ℕ
fault_text (Line Malformed) = codes "malformed"
fault_text (Line TooLarge) = codes "number too large"
fault_text NoNewline = codes "no newline at its end"
fault_text TooManyBytes = codes "more than 16384 bytes"
fault_text UnknownList = codes "unknown list, not costs or zones"

abbrev pub refusal_text : Refusal → List ℕ
refusal_text r = codes "line " ++ (decimal r.line ++ (codes ": " ++ (fault_text r.fault ++ codes "\n")))
