-- The lines of a list of costs, each a total and a worst: their numbers in base ten, with one space between them.
-- Assumes nothing.
use Rattle.std.specs.Prelude.{◌≡◌, ℕ, ◌<◌, ◌⊎◌, List, ◌∷◌, ◌++◌, Ok, Err, decimal, Result}
use Rattle.std.specs.Str.Parse.{digits_value}
use Rattle.costs.specs.declared.pair.Pair.{Pair}
use Rattle.costs.specs.declared.total.Total.{Total}
use Rattle.costs.specs.declared.worst.Worst.{Worst}
use Rattle.digits.specs.Numbers.{BaseTen}
use Rattle.digits.specs.declared.numbers.ReadFault.{ReadFault}
use Rattle.digits.specs.declared.numbers.ReadFault.TheVariants.{Malformed, TooLarge}

abbrev pub cost_line : Pair Total Worst → List ℕ
cost_line c = decimal c.first.value ++ (32 ∷ decimal c.second.value)

-- two numbers in base ten with one space between them, of which one is above the most that its part holds
pub record CostLarge (bs : List ℕ) : Type 0 where
  pub left : List ℕ
  pub right : List ℕ
  pub parts : bs ≡ left ++ (32 ∷ right)
  pub left_number : BaseTen left
  pub right_number : BaseTen right
  pub above : (4294967295 < digits_value 10 left) ⊎ (65535 < digits_value 10 right)

-- both numbers; that one is none comes before that one is too large
abbrev pub both_read : Result ℕ ReadFault → Result ℕ ReadFault → Result (ℕ × ℕ) ReadFault
both_read (Ok m) (Ok n) = Ok (m, n)
both_read (Ok m) (Err fault) = Err fault
both_read (Err fault) (Ok n) = Err fault
both_read (Err TooLarge) (Err TooLarge) = Err TooLarge
both_read (Err TooLarge) (Err Malformed) = Err Malformed
both_read (Err Malformed) (Err fault) = Err Malformed
