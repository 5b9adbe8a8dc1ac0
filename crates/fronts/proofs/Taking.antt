-- Rows taken one by one into a list: it holds the front of those taken so far.
-- Assumes nothing.
use Rattle.std.proofs.Common.{◌≡◌, ℕ, ◌+◌, ◌<◌, ◌≤◌, min, List, length, get_or, take, drop, sym, refl, ap, ◌∙◌, inl, inr, arith}
use Rattle.std.proofs.lemmas.List.{length-map, length-take, take_all}
use Rattle.std.proofs.lemmas.Bool.{cases_lt, cond-true}
use Rattle.rules.specs.Kinds.{Kind, Laws}
use Rattle.rules.specs.Fronts.{covered, added, front_of}
use Rattle.rules.proofs.Fronts.{front_short}
use Rattle.fronts.specs.declared.added.Added.{Added}
use Rattle.fronts.specs.declared.added.Added.TheVariants.{Covered, Listed, NoRow}
use Rattle.fronts.specs.declared.row.Row.{Row}
use Rattle.fronts.specs.Rows.{entry_of, entries, in_use}
use Rattle.fronts.specs.Changes.{Adds}
use Rattle.fronts.specs.Lists.{used_after_add}
use Rattle.fronts.specs.Whole.{Fits, Whole, Outgrown}
use Rattle.fronts.proofs.Parts.{take_up_to, drop_later}
use Rattle.fronts.proofs.Additions.{added_few}
use Rattle.fronts.proofs.WholeFronts.{front_more, is_whole}

module _ {C : Type 0} (k : Kind C) (given : List (Row C)) where
  -- after i rows: what is in use, that there was room all along, and what no front has reached
  pub record Taking (start rows : List (Row C)) (len i : ℕ) : Type 0 where
    pub long : length rows ≡ length start
    pub held : in_use len rows ≡ front_of k (in_use i given)
    pub fits : Fits k given (length start) i
    pub rest : (m : ℕ) → Fits k given m i → drop m rows ≡ drop m start

  -- the front of the first i + 1 rows, as one that was added to that of the first i
  next_front : (rows : List (Row C)) (len i : ℕ) (x : Row C) → in_use len rows ≡ front_of k (in_use i given) → i < length given → x ≡ get_or given i x →
      front_of k (in_use (i + 1) given) ≡ added k (in_use len rows) (entry_of x)
  next_front rows len i x held lt read =
      front_more k given i x lt ∙ ap (λ r. added k (front_of k (in_use i given)) (entry_of r)) (sym read) ∙ ap (λ es. added k es (entry_of x)) (sym held)

  fits_more : (room i : ℕ) → Fits k given room i → length (front_of k (in_use (i + 1) given)) ≤ room → Fits k given room (i + 1)
  fits_more room i h last j le =
      elim (cases_lt j (i + 1)) [
        | inl lt ↦ h j (omega arith)
        | inr ge ↦ let same : j ≡ i + 1 = omega arith in rw same last
      ]

  fits_less : (m i : ℕ) → Fits k given m (i + 1) → Fits k given m i
  fits_less m i h j le = h j (omega arith)

  pub taking_more : (start rows rows' : List (Row C)) (len len' i : ℕ) (x : Row C) (a : Added) → Taking start rows len i → i < length given → x ≡ get_or given i x →
      Adds k (in_use len rows) (entry_of x) rows rows' a → len' ≡ used_after_add a len → (a ≡ NoRow → ⊥) → Taking start rows' len' (i + 1)
  taking_more start rows rows' len len' i x Covered h lt read adds used room =
      let next = next_front rows len i x h.held lt read in
      let same : added k (in_use len rows) (entry_of x) ≡ in_use len rows = cond-true (covered k (in_use len rows) x.cost) _ _ adds.0 in
      let as_before : front_of k (in_use (i + 1) given) ≡ front_of k (in_use i given) = next ∙ same ∙ h.held in
      record {
        long = ap length adds.1 ∙ h.long;
        held = ap (λ n. in_use n rows') used ∙ ap (in_use len) adds.1 ∙ sym same ∙ sym next;
        fits = fits_more (length start) i h.fits (rw as_before (h.fits i (omega arith)));
        rest = λ m fits. ap (drop m) adds.1 ∙ h.rest m (fits_less m i fits);
      }
  taking_more start rows rows' len len' i x (Listed n) h lt read adds used room =
      let next = next_front rows len i x h.held lt read in
      let holds = adds.1 in
      let counted : n ≡ length (front_of k (in_use (i + 1) given)) = holds.count ∙ ap length (sym next) in
      let within : length (take n rows') ≡ n = sym (length-map (take n rows') entry_of) ∙ ap length holds.front ∙ sym holds.count in
      let few : n ≤ length rows' = omega (arith, length-take n rows') in
      record {
        long = holds.long ∙ h.long;
        held = ap (λ j. in_use j rows') used ∙ holds.front ∙ sym next;
        fits = fits_more (length start) i h.fits (omega (arith, h.long, holds.long));
        rest = λ m fits. drop_later n m rows rows' (omega (arith, fits (i + 1) (omega arith))) holds.rest ∙ h.rest m (fits_less m i fits);
      }
  taking_more start rows rows' len len' i x NoRow h lt read adds used room = absurd (room refl)

  -- a row finds no row left; last is what the slice then holds
  pub taking_outgrown : Laws k → (start rows rows' last : List (Row C)) (len i : ℕ) (x : Row C) → Taking start rows len i → i < length given → x ≡ get_or given i x →
      Adds k (in_use len rows) (entry_of x) rows rows' NoRow → last ≡ rows' → Outgrown k given last i
  taking_outgrown laws start rows rows' last len i x h lt read adds e =
      let next = next_front rows len i x h.held lt read in
      let es = in_use len rows in
      let few : length (added k es (entry_of x)) ≤ length es + 1 = added_few k es (entry_of x) adds.0 in
      let used : length es ≡ min len (length rows) = length-map (take len rows) entry_of ∙ length-take len rows in
      let all : length rows ≤ len = omega (arith, adds.1) in
      let same : last ≡ rows = e ∙ adds.2 in
      let long : length last ≡ length start = ap length same ∙ h.long in
      let over : length last < length (front_of k (in_use (i + 1) given)) = omega (arith, ap length next, ap length same, adds.1) in
      record {
        held = ap entries (same ∙ sym (take_all len rows all)) ∙ h.held;
        fits = rw long h.fits;
        next = over;
        short = omega (arith, over, front_short k laws (in_use (i + 1) given), length-map (take (i + 1) given) entry_of, length-take (i + 1) given);
      }

  -- all rows are taken; last is what the slice then holds
  pub taking_whole : Laws k → (old start rows last : List (Row C)) (len n i : ℕ) → Taking start rows len i → i ≡ length given → n ≡ length (in_use len rows) → start ≡ old → last ≡ rows →
      Whole k given old last n
  taking_whole laws old start rows last len n i h done e begun same =
      let all : in_use i given ≡ entries given = ap entries (take_all i given (omega arith)) in
      let held : in_use len rows ≡ front_of k (entries given) = h.held ∙ ap (front_of k) all in
      let used : n ≡ min len (length rows) = e ∙ length-map (take len rows) entry_of ∙ length-take len rows in
      let front : in_use n last ≡ front_of k (entries given) = ap (in_use n) same ∙ ap entries (take_up_to len n rows used) ∙ held in
      let long : length last ≡ length start = ap length same ∙ h.long in
      record {
        count = e ∙ ap length held;
        held = front;
        front = rw front (is_whole k laws (entries given));
        fits = rw (long, ← done) h.fits;
        rest = λ m fits. ap (drop m) same ∙ h.rest m (rw done fits) ∙ ap (drop m) begun;
      }
