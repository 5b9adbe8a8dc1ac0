-- For each name and input there is only one thing to print.
use Rattle.std.proofs.Common.{◌≡◌, ℕ, ◌+◌, ◌<◌, List, [], ◌∷◌, ◌++◌, length, Ok, Err, codes, sym, refl, ap, ◌∙◌, subst, append_assoc, arith}
use Rattle.std.specs.List.{ContainsAt as Has}
use Rattle.std.proofs.lemmas.Bool.{false≢true}
use Rattle.std.proofs.lemmas.List.{append-nil, length-append}
use Rattle.rules.specs.Kinds.{Kind, Laws}
use Rattle.rules.specs.Fronts.{Front}
use Rattle.costs.specs.Pairs.{pair_kind}
use Rattle.costs.specs.Totals.{total_kind}
use Rattle.costs.specs.Worsts.{worst_kind}
use Rattle.costs.specs.ZoneSets.{zones_kind, zones_text}
use Rattle.costs.specs.TextLaws.{until, past}
use Rattle.costs.specs.PairLaws.{pair_laws}
use Rattle.costs.specs.TotalLaws.{total_laws}
use Rattle.costs.specs.WorstLaws.{worst_laws}
use Rattle.costs.specs.ZonesLaws.{zones_laws}
use Rattle.digits.specs.declared.numbers.ReadFault.{ReadFault}
use Rattle.digits.specs.declared.numbers.ReadFault.TheVariants.{Malformed, TooLarge}
use Rattle.prices.specs.declared.refusal.Fault.{Fault}
use Rattle.prices.specs.declared.refusal.Fault.TheVariants.{Line, NoNewline, TooManyBytes, UnknownList}
use Rattle.prices.specs.declared.refusal.Refusal.{Refusal}
use Rattle.digits.specs.Splits.{Without}
use Rattle.prices.specs.Lines.{Lines, LineRead}
use Rattle.prices.specs.CostLines.{cost_line, CostLarge}
use Rattle.prices.specs.ZoneLines.{zones_line, none_large}
use Rattle.prices.specs.PriceLists.{said, BeginsWrong, WrongAt, OneReading}
use Rattle.prices.specs.Pages.{page}
use Rattle.prices.specs.Refusals.{refusal_text}
use Rattle.prices.specs.Answers.{Output, PageOf, RefusedFor, too_many, wrong, Answers, PageExactly}
use Rattle.prices.specs.Printed.{of_costs, of_zones, of_none, OneReadings, PagesExactly, OnePrint}
use Rattle.prices.specs.Saying.{not_within}
use Rattle.prices.specs.CostReads.{cost_lines}
use Rattle.prices.specs.ZoneReads.{zones_lines}
use Rattle.rules.proofs.SameFronts.{front_same}

module _ {C : Type 0} (line : C → List ℕ) (Large : List ℕ → Type 0) (lines : Lines line Large) where
  -- no cost's line begins the bytes
  Stuck : List ℕ → Type 0
  Stuck bs = (c : C) (rest : List ℕ) → bs ≡ line c ++ (10 ∷ rest) → ⊥

  nil_stuck : Stuck []
  unfolding Stuck
  nil_stuck c rest e = omega (arith, simp length-append at (ap length e))

  wrong_stuck : (fault : Fault) (bs : List ℕ) → BeginsWrong line Large fault bs → Stuck bs
  unfolding Stuck
  wrong_stuck (Line Malformed) bs (l, r, e, plain, read) c rest f =
      read.0 c (until 10 l (line c) r rest plain (lines.plain c) (sym e ∙ f))
  wrong_stuck (Line TooLarge) bs (l, r, e, plain, read) c rest f =
      lines.fits c (subst Large (until 10 l (line c) r rest plain (lines.plain c) (sym e ∙ f)) read)
  wrong_stuck NoNewline bs (some, plain) c rest f = not_within 10 (line c) rest (subst (Without 10) f plain)
  wrong_stuck TooManyBytes bs h c rest f = h
  wrong_stuck UnknownList bs h c rest f = h

  -- the costs that bytes say before they are stuck, and where they are
  one_split : (cs ds : List C) (x y : List ℕ) → Stuck x → Stuck y → said line cs ++ x ≡ said line ds ++ y → (cs ≡ ds) × (x ≡ y)
  unfolding Stuck
  one_split [] [] x y p q e = (refl, e)
  one_split [] (d ∷ ds) x y p q e = absurd (p d (said line ds ++ y) (e ∙ append_assoc (line d) (10 ∷ said line ds) y))
  one_split (c ∷ cs) [] x y p q e = absurd (q c (said line cs ++ x) (sym e ∙ append_assoc (line c) (10 ∷ said line cs) x))
  one_split (c ∷ cs) (d ∷ ds) x y p q e =
      let f : line c ++ (10 ∷ (said line cs ++ x)) ≡ line d ++ (10 ∷ (said line ds ++ y)) = sym (append_assoc (line c) (10 ∷ said line cs) x) ∙ e ∙ append_assoc (line d) (10 ∷ said line ds) y in
      let first = until 10 (line c) (line d) (said line cs ++ x) (said line ds ++ y) (lines.plain c) (lines.plain d) f in
      let same = lines.apart c d first in
      let rest = one_split cs ds x y p q (past 10 (line c) (line d) (said line cs ++ x) (said line ds ++ y) first f) in
      (cc (same, rest.0), rest.1)

  one_read : (a b : ReadFault) (l : List ℕ) → LineRead line Large l (Err a) → LineRead line Large l (Err b) → a ≡ b
  one_read Malformed Malformed l p q = refl
  one_read Malformed TooLarge l p q = absurd (p.1 q)
  one_read TooLarge Malformed l p q = absurd (q.1 p)
  one_read TooLarge TooLarge l p q = refl

  no_line : (bs l r : List ℕ) → bs ≡ l ++ (10 ∷ r) → Without 10 bs → ⊥
  no_line bs l r e plain = not_within 10 l r (subst (Without 10) e plain)

  one_fault : (f g : Fault) (bs : List ℕ) → BeginsWrong line Large f bs → BeginsWrong line Large g bs → f ≡ g
  one_fault (Line a) (Line b) bs (l, r, e, plain, read) (m, s, h, clear, said_wrong) =
      let same = until 10 l m r s plain clear (sym e ∙ h) in
      ap Line (one_read a b m (subst (λ (t : List ℕ). LineRead line Large t (Err a)) same read) said_wrong)
  one_fault (Line a) NoNewline bs (l, r, e, plain, read) (some, clear) = absurd (no_line bs l r e clear)
  one_fault NoNewline (Line b) bs (some, clear) (l, r, e, plain, read) = absurd (no_line bs l r e clear)
  one_fault NoNewline NoNewline bs p q = refl
  one_fault (Line a) TooManyBytes bs p q = absurd q
  one_fault (Line a) UnknownList bs p q = absurd q
  one_fault NoNewline TooManyBytes bs p q = absurd q
  one_fault NoNewline UnknownList bs p q = absurd q
  one_fault TooManyBytes g bs p q = absurd p
  one_fault UnknownList g bs p q = absurd p

  same_refusal : (r s : Refusal) → r.line ≡ s.line → r.fault ≡ s.fault → r ≡ s
  same_refusal r s e f = λ i. record { line = e i; fault = f i }

  one_wrong : (bs : List ℕ) (r s : Refusal) → WrongAt line Large bs r → WrongAt line Large bs s → r ≡ s
  one_wrong bs r s p q =
      let both = one_split p.above q.above p.from q.from (wrong_stuck r.fault p.from p.wrong) (wrong_stuck s.fault q.from q.wrong) (sym p.parts ∙ q.parts) in
      same_refusal r s
      (p.number ∙ ap (λ cs. length cs + 1) both.0 ∙ sym q.number)
      (one_fault r.fault s.fault q.from (subst (BeginsWrong line Large r.fault) both.1 p.wrong) q.wrong)

  -- an input says at most one list
  one_list : (cs ds : List C) → said line cs ≡ said line ds → cs ≡ ds
  one_list cs ds e = (one_split cs ds [] [] nil_stuck nil_stuck (append-nil (said line cs) ∙ e ∙ sym (append-nil (said line ds)))).0

  begins_some : (fault : Fault) (bs : List ℕ) → BeginsWrong line Large fault bs → 0 < length bs
  begins_some (Line fault) bs (l, r, e, plain, read) = omega (arith, simp length-append at (ap length e))
  begins_some NoNewline bs h = h.0
  begins_some TooManyBytes bs h = absurd h
  begins_some UnknownList bs h = absurd h

  -- and where it says one, it goes wrong nowhere
  not_wrong : (cs : List C) (bs : List ℕ) (r : Refusal) → bs ≡ said line cs → WrongAt line Large bs r → ⊥
  not_wrong cs bs r e p =
      let none = (one_split cs p.above [] p.from nil_stuck (wrong_stuck r.fault p.from p.wrong) (append-nil (said line cs) ∙ sym e ∙ p.parts)).1 in
      omega (arith, begins_some r.fault p.from p.wrong, ap length none)

  one_reading : OneReading line Large
  one_reading = record { one_list = one_list; not_both = λ cs r. not_wrong cs (said line cs) r refl; one_refusal = one_wrong }

  one_refusal : (bs : List ℕ) (r s : Refusal) → RefusedFor line Large bs r → RefusedFor line Large bs s → r ≡ s
  one_refusal bs r s (too_many h l f) (too_many g m e) = same_refusal r s (l ∙ sym m) (f ∙ sym e)
  one_refusal bs r s (too_many h l f) (wrong g q) = absurd (omega arith)
  one_refusal bs r s (wrong h p) (too_many g m e) = absurd (omega arith)
  one_refusal bs r s (wrong h p) (wrong g q) = one_wrong bs r s p q

  module _ (text : C → List ℕ) (k : Kind C) (laws : Laws k) where
    one_page : (bs a b : List ℕ) → PageOf line text k bs a → PageOf line text k bs b → a ≡ b
    one_page bs a b p q =
        let costs = one_list p.costs q.costs (sym p.says ∙ q.says) in
        let kept = front_same k laws (Has q.costs) p.kept q.kept (subst (λ (cs : List C). Front k (Has cs) p.kept) costs p.front) q.front in
        p.prints ∙ ap (λ fs. page text fs (length p.costs)) kept ∙ ap (λ cs. page text q.kept (length cs)) costs ∙ sym q.prints

    not_both : (bs a : List ℕ) (r : Refusal) → PageOf line text k bs a → RefusedFor line Large bs r → ⊥
    not_both bs a r p (too_many h l f) = omega (arith, p.few)
    not_both bs a r p (wrong h q) = not_wrong p.costs bs r p.says q

    one_answer : (bs : List ℕ) (a b : Output) → Answers line Large text k bs a → Answers line Large text k bs b → a ≡ b
    one_answer bs (Ok a) (Ok b) p q = ap Ok (one_page bs a b p q)
    one_answer bs (Ok a) (Err b) p (s, q, e) = absurd (not_both bs a s p q)
    one_answer bs (Err a) (Ok b) (r, p, d) q = absurd (not_both bs b r q p)
    one_answer bs (Err a) (Err b) (r, p, d) (s, q, e) = ap Err (d ∙ ap refusal_text (one_refusal bs r s p q) ∙ sym e)

    page_exactly : PageExactly line Large text k
    page_exactly input (Ok out) p = (λ _. (p.few, (p.costs, p.says)), λ _. refl)
    page_exactly input (Err out) (r, too_many h l f, e) = (λ no. absurd (false≢true no), λ says. absurd (omega (arith, says.0)))
    page_exactly input (Err out) (r, wrong h p, e) = (λ no. absurd (false≢true no), λ says. absurd (not_wrong says.1.0 input r says.1.1 p))

other_name : (name : List ℕ) → name ≡ codes "costs" → name ≡ codes "zones" → ⊥
other_name name e f = let h : codes "costs" ≡ codes "zones" = sym e ∙ f in let z : ◌≡◌ {A = ℕ} 99 122 = cc in omega arith

pub one_readings : OneReadings
one_readings = (one_reading cost_line CostLarge cost_lines, one_reading zones_line none_large zones_lines)

pub pages_exactly : PagesExactly
pages_exactly = (
  page_exactly cost_line CostLarge cost_lines cost_line (pair_kind total_kind worst_kind) (pair_laws total_laws worst_laws),
  page_exactly zones_line none_large zones_lines zones_text zones_kind zones_laws,
)

pub one_print : OnePrint
one_print name input a b (of_costs e p) (of_costs f q) =
    one_answer cost_line CostLarge cost_lines cost_line (pair_kind total_kind worst_kind) (pair_laws total_laws worst_laws) input a b p q
one_print name input a b (of_costs e p) (of_zones f q) = absurd (other_name name e f)
one_print name input a b (of_costs e p) (of_none f g q) = absurd (f e)
one_print name input a b (of_zones e p) (of_costs f q) = absurd (other_name name f e)
one_print name input a b (of_zones e p) (of_zones f q) = one_answer zones_line none_large zones_lines zones_text zones_kind zones_laws input a b p q
one_print name input a b (of_zones e p) (of_none f g q) = absurd (g e)
one_print name input a b (of_none e d p) (of_costs f q) = absurd (e f)
one_print name input a b (of_none e d p) (of_zones f q) = absurd (d f)
one_print name input a b (of_none e d p) (of_none f g q) = p ∙ sym q
