use Rattle.std.proofs.lemmas.Result.{IfOk-weaker}
use Rattle.prices.specs.Printed.{of_costs, of_zones}
use Rattle.prices.proofs.OnePrints.{one_print}
use Rattle.prices.proofs.printing.front_page.Goals as goal

pub returns-in-costs-clause-printed : goal.returns-in-costs-clause-printed
returns-in-costs-clause-printed c = IfOk-weaker c.answer_list.result _ _ (λ a h. of_costs c.in-costs.is h) c.answer_list.ensures

pub returns-in-zones-clause-printed : goal.returns-in-zones-clause-printed
returns-in-zones-clause-printed c = IfOk-weaker c.answer_list-in-zones.result _ _ (λ a h. of_zones c.in-zones.is h) c.answer_list-in-zones.ensures

pub returns-in_err-to_string-in_default-clause-one_print : goal.returns-in_err-to_string-in_default-clause-one_print
returns-in_err-to_string-in_default-clause-one_print c = one_print

pub returns-in-costs-clause-one_print : goal.returns-in-costs-clause-one_print
returns-in-costs-clause-one_print c = one_print

pub returns-in-zones-clause-one_print : goal.returns-in-zones-clause-one_print
returns-in-zones-clause-one_print c = one_print

pub returns-in_ok-to_string-in_default-clause-one_print : goal.returns-in_ok-to_string-in_default-clause-one_print
returns-in_ok-to_string-in_default-clause-one_print c = one_print
