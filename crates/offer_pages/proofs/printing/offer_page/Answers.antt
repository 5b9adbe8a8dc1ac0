use Rattle.std.proofs.Common.{rules, ◌≡◌, ℕ, List, Ok, Err, vec_items, string_bytes, Result, String, Vec, sym, ap, ◌∙◌, subst}
use Rattle.std.specs.Prelude.{Some}
use Rattle.std.specs.Result.{MatchResult}
use Rattle.std.specs.declared.alloc.Global.{Global}
use Rattle.pages.specs.Stops.{Told}
use Rattle.pages.specs.declared.stop.Stop.{Stop}
use Rattle.pages.specs.declared.stop.Stop.TheVariants.{Memory, Refused}
use Rattle.offer_pages.specs.declared.fault.Fault.{Fault}
use Rattle.offer_pages.specs.Faults.{fault_text}
use Rattle.offer_pages.specs.Pages.{PageMade, PageOf}
use Rattle.offer_pages.specs.Printed.{Printed, page, refusal}
use Rattle.offer_pages.proofs.OnePrints.{one_print}
use Rattle.offer_pages.proofs.printing.offer_page.Goals as goal

-- what is told is printed: the page, or the line of the refusal
told_printed : (bytes : List ℕ) (made : Result (Vec ℕ Global) (Stop Fault)) (told : Result (Vec ℕ Global) (String Global)) (out : Vec ℕ Global) (Says : String Global → Type 0) → PageMade bytes made → Told (λ fault. Some (fault_text fault)) made told → MatchResult told (λ v. out ≡ v) Says → ((line : String Global) → Says line → vec_items out ≡ string_bytes line) → Printed bytes (vec_items out)
told_printed bytes (Ok v) (Ok w) out Says h same e says = page (subst (λ (u : Vec ℕ Global). PageOf bytes (vec_items u)) (same ∙ sym e) h)
told_printed bytes (Err (Refused r)) (Err line) out Says h words e says = refusal r h (says line e ∙ words)
told_printed bytes (Ok v) (Err line) out Says h never e says = absurd never
told_printed bytes (Err (Refused r)) (Ok w) out Says h never e says = absurd never
told_printed bytes (Err Memory) (Ok w) out Says h never e says = absurd never
told_printed bytes (Err Memory) (Err line) out Says h never e says = absurd never

pub returns-in_err-or_line-clause-one_print : goal.returns-in_err-or_line-clause-one_print
returns-in_err-or_line-clause-one_print c = one_print

pub returns-clause-printed : goal.returns-clause-printed
returns-clause-printed c =
    told_printed c.args.bytes.now c.make_page.result c.in_ok-or_line.field-0 c.unwrap_or_else.result _ c.make_page.ensures c.in_ok-or_line.ensures.told c.unwrap_or_else.ensures (λ line says. search rules)

pub returns-clause-one_print : goal.returns-clause-one_print
returns-clause-one_print c = one_print
