use Rattle.std.proofs.Common.{◌≡◌, ◌∷◌, ◌++◌, decimal, sym, ap, ◌∙◌, rules}
use Rattle.sites.proofs.LineReads.{tail_same, no_next_number, number_front}
use Rattle.sites.proofs.lines.next_number.Goals as goal

pub returns-in_err-number : goal.returns-in_err-number
returns-in_err-number c =
    rw c.from_residual-in_err-number.ensures
    (λ n more small ended e.
    let first : c.args.bytes.now ≡ 32 ∷ c.in_ok-written.written.now = search rules in
    no_next_number c.in_ok-written.written.now c.space_or_end.result c.space_or_end.ensures.first
    (λ m few f. c.in_err-number.ensures m few (c.split_at.ensures.front ∙ f)) n more small ended (tail_same 32 32 _ _ (sym first ∙ e)))

pub returns : goal.returns
returns c =
    let first : c.args.bytes.now ≡ 32 ∷ c.in_ok-written.written.now = search rules in
    let digits = sym c.split_at.ensures.front ∙ c.in_ok-number.ensures.1 in
    let front = number_front c.in_ok-written.written.now c.space_or_end.result c.in_ok-number.field-0 c.space_or_end.ensures.first digits in
    let rest : c.split_at.result.1.now ≡ _ = c.split_at.ensures.back in
    (c.in_ok-number.ensures.0, first ∙ ap (λ t. 32 ∷ t) (front.0 ∙ ap (λ t. decimal c.in_ok-number.field-0 ++ t) (sym rest)), rw rest front.1)
