-- That totals keep the laws.
-- Assumes nothing.
use Rattle.std.proofs.Common.{arith}
use Rattle.std.proofs.lemmas.Bool.Decides.{nat_tests}
use Rattle.std.specs.Prelude.{decimal}
use Rattle.rules.specs.Kinds.{Laws}
use Rattle.costs.specs.Texts.{Texts}
use Rattle.costs.specs.declared.total.Total.{Total}
use Rattle.costs.specs.Totals.{total_same, total_kind}
use Rattle.costs.specs.SizeLaws.{by_size_laws, decimal_texts}

pub total_laws : Laws total_kind
total_laws =
    by_size_laws (λ c. c.value) total_same _ _
    (λ a b c. total_same _ _ (omega arith))
    (λ a b. total_same _ _ (omega arith))
    (λ a. total_same _ _ (omega arith))
    (λ a b c p. grind (arith, nat_tests))

pub total_texts : Texts {C = Total} (λ c. decimal c.value)
total_texts = decimal_texts (λ c. c.value) total_same (λ c. omega arith)
