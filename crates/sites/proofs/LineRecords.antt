-- A line read as a record: by its mark, and then the numbers that the mark asks for. Assumes nothing.
use Rattle.std.proofs.Common.{◌≡◌, ℕ, ◌<◌, ◌≤◌, List, [], ◌∷◌, ◌++◌, decimal, sym, ◌∙◌, subst, arith}
use Rattle.std.specs.List.{AllByRecursion}
use Rattle.std.proofs.ByRecursion.{All-append, All-weaker}
use Rattle.std.proofs.lemmas.List.{append_assoc}
use Rattle.digits.specs.Splits.{Without}
use Rattle.sites.specs.declared.records.Record.{Record}
use Rattle.sites.specs.declared.records.Record.TheVariants.{Horizon, Places, Lane, BothLanes, Tariff, Cart}
use Rattle.sites.specs.Records.{mark_first, mark_second, numbers, numbers_text, line_text, record_text, Fitting}
use Rattle.costs.specs.TextLaws.{from_zero}
use Rattle.sites.proofs.LineReads.{until, not_without}

-- no line has a newline in it
numbers_plain : (ns : List ℕ) → AllByRecursion (λ n. n ≤ 65535) ns → Without 10 (numbers_text ns)
numbers_plain [] h = tt
numbers_plain (n ∷ ns) h = (
  (λ e. omega arith),
  All-append (λ x. x ≡ 10 → ⊥) (decimal n) (numbers_text ns)
      (All-weaker (λ x. 48 ≤ x) (λ x. x ≡ 10 → ⊥) (λ x k e. omega arith) (decimal n) (from_zero n (omega (arith, h.0))))
      (numbers_plain ns h.1),
)

mark_above : (r : Record) → (10 < mark_first r) × (10 < mark_second r)
mark_above (Horizon h) = (omega arith, omega arith)
mark_above (Places p) = (omega arith, omega arith)
mark_above (Lane l) = (omega arith, omega arith)
mark_above (BothLanes l) = (omega arith, omega arith)
mark_above (Tariff t w) = (omega arith, omega arith)
mark_above (Cart s g) = (omega arith, omega arith)

line_plain : (r : Record) → Fitting r → Without 10 (line_text r)
line_plain r h =
    let m = mark_above r in
    ((λ e. omega (arith, m.0)), ((λ e. omega (arith, m.1)), numbers_plain (numbers r) h))

-- where there is no newline, there is no record
pub no_line : (bs : List ℕ) → Without 10 bs → (r : Record) (more : List ℕ) → Fitting r → bs ≡ record_text r ++ more → ⊥
no_line bs w r more fits e =
    let P : List ℕ → Type 0 = Without 10 in
    not_without 10 (line_text r) more (subst P (e ∙ append_assoc (line_text r) (10 ∷ []) more) w)

module _ (bs line below : List ℕ) (e : bs ≡ line ++ (10 ∷ below)) where
  -- where the first line holds no record, none is at the front
  pub no_record : Without 10 line → ((r : Record) → Fitting r → line ≡ line_text r → ⊥) → (r : Record) (more : List ℕ) → Fitting r → bs ≡ record_text r ++ more → ⊥
  no_record w none r more fits f =
      none r fits (until 10 line (line_text r) below more w (line_plain r fits) (sym e ∙ f ∙ append_assoc (line_text r) (10 ∷ []) more))
