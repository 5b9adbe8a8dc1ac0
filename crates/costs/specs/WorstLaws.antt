-- That worsts keep the laws.
-- Assumes nothing.
use Rattle.std.proofs.Common.{arith}
use Rattle.std.proofs.lemmas.Bool.Decides.{nat_tests}
use Rattle.std.specs.Prelude.{decimal}
use Rattle.rules.specs.Kinds.{Laws}
use Rattle.costs.specs.Texts.{Texts}
use Rattle.costs.specs.declared.worst.Worst.{Worst}
use Rattle.costs.specs.Worsts.{worst_same, worst_kind}
use Rattle.costs.specs.SizeLaws.{by_size_laws, decimal_texts}

pub worst_laws : Laws worst_kind
worst_laws =
    by_size_laws (λ c. c.value) worst_same _ _
    (λ a b c. worst_same _ _ (omega arith))
    (λ a b. worst_same _ _ (omega arith))
    (λ a. worst_same _ _ (omega arith))
    (λ a b c p. grind (arith, nat_tests))

pub worst_texts : Texts {C = Worst} (λ c. decimal c.value)
worst_texts = decimal_texts (λ c. c.value) worst_same (λ c. omega arith)
