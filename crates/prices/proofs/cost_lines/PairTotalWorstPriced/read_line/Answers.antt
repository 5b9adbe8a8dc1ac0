use Rattle.std.proofs.Common.{◌≡◌, ℕ, List, Some, None, Err, Option, sym, ◌∙◌, subst, arith}
use Rattle.std.proofs.lemmas.Result.{err_from_is_err_and}
use Rattle.std.specs.Borrow.{Bor}
use Rattle.std.specs.Option.{ok_or}
use Rattle.digits.specs.declared.numbers.ReadFault.{ReadFault}
use Rattle.digits.specs.declared.numbers.ReadFault.TheVariants.{Malformed}
use Rattle.digits.specs.Splits.{SplitOnce}
use Rattle.prices.specs.CostLines.{cost_line, CostLarge}
use Rattle.prices.specs.CostReads.{no_space, parts_unread}
use Rattle.prices.specs.Lines.{LineRead}
use Rattle.prices.proofs.cost_lines.PairTotalWorstPriced.read_line.Goals as goal

-- where there is no space, the line is malformed
not_split : (bs : List ℕ) (parts : Option (Bor (List ℕ) × Bor (List ℕ))) (fault : ReadFault) → SplitOnce 32 bs parts → Err fault ≡ ok_or parts Malformed → LineRead cost_line CostLarge bs (Err fault)
not_split bs None fault s e = let is : fault ≡ Malformed = cc in subst (λ (f : ReadFault). LineRead cost_line CostLarge bs (Err f)) (sym is) (no_space bs s)
not_split bs (Some p) fault s e = let z : ◌≡◌ {A = ℕ} 0 1 = cc in absurd (omega arith)

pub returns-in_err-left : goal.returns-in_err-left
returns-in_err-left c =
    let p = err_from_is_err_and c.from_residual.result c.from_residual.ensures.1 in
    rw (p.1, p.2) (not_split c.args.bytes.now c.split_once.result c.in_err-left.field-0.0 c.split_once.ensures c.in_err-left.ensures.value)

pub returns-in_err-total : goal.returns-in_err-total
returns-in_err-total c =
    let p = err_from_is_err_and c.from_residual-in_err-total.result c.from_residual-in_err-total.ensures.1 in
    let parts = subst (SplitOnce 32 c.args.bytes.now) c.in_ok-left.ensures.ok_part c.split_once.ensures in
    rw (p.1, p.2)
    (parts_unread c.args.bytes.now c.in_ok-left.left.now c.in_ok-left.right.now c.read_number.result c.read_number-2.result c.in_err-total.field-0.0
    parts.0 parts.1 c.read_number.ensures (rw c.from.ensures at c.read_number-2.ensures) (sym c.both.ensures ∙ c.in_err-total.was))
