-- Filling a cell, label by label.
-- Assumes nothing.
use Rattle.std.proofs.Common.{◌≡◌, ℕ, ◌+◌, ◌-◌, ◌<◌, ◌≤◌, List, [], ◌∷◌, ◌++◌, length, get_or, take, drop, Some, None, Option, sym, ap, ◌∙◌, subst, inl, inr, arith}
use Rattle.std.specs.List.{slice_get}
use Rattle.std.proofs.lemmas.Option.{slice_get-get_or, slice_get_past}
use Rattle.std.proofs.lemmas.Bool.{cases_lt}
use Rattle.std.proofs.lemmas.List.{append_assoc, take_more, take_all, length-take-le, length_push, drop_at}
use Rattle.rules.specs.Kinds.{Kind, Laws}
use Rattle.rules.specs.Fronts.{front_of}
use Rattle.rules.specs.Offers.{Label}
use Rattle.labels.specs.declared.cell.Cell.{Cell}
use Rattle.labels.specs.declared.row.LabelRow.{LabelRow}
use Rattle.labels.specs.Cells.{Ready, Selects}
use Rattle.labels.specs.Lists.{Extended}
use Rattle.charts.specs.Parts.{Part}
use Rattle.labels.specs.Picks.{picked, last_cost, passed_over}
use Rattle.labels.specs.Queries.{Asked, row_of}
use Rattle.labels.specs.Rows.{shown, shown_row, shown_best}
use Rattle.charts.proofs.Parts.{part_more}
use Rattle.labels.proofs.Picking.{picks_next}
use Rattle.labels.proofs.Showing.{length-shown}

module _ {X : Type 0} (xs : List X) (j : ℕ) where
  -- what stands at j, and that nothing does
  pub nth_here : (b : X) → Some b ≡ slice_get xs j → (j < length xs) × (take (j + 1) xs ≡ take j xs ++ b ∷ [])
  nth_here b h = elim (cases_lt j (length xs)) [
    | inl lt ↦
        let s : Some b ≡ Some (get_or xs j b) = h ∙ slice_get-get_or xs j b lt in
        let same : b ≡ get_or xs j b = cc s in
        (lt, take_more xs j b lt ∙ ap (λ x. take j xs ++ x ∷ []) (sym same))
    | inr ge ↦
        let s : Some b ≡ None = h ∙ slice_get_past xs j ge in
        let z : ◌≡◌ {A = ℕ} 0 1 = cc s in absurd (omega arith)
  ]

  pub nth_over : X → None ≡ slice_get xs j → length xs ≤ j
  nth_over d h = elim (cases_lt j (length xs)) [
    | inl lt ↦
        let s : None ≡ Some (get_or xs j d) = h ∙ slice_get-get_or xs j d lt in
        let z : ◌≡◌ {A = ℕ} 0 1 = cc s in absurd (omega arith)
    | inr ge ↦ ge
  ]

-- the rows up to end hold what they held up to start, and the first of the cell's labels
pub record Filling {C : Type 0} (was rows : List (LabelRow C)) (start end : ℕ) (es : List (Label C)) : Type 0 where
  pub from : start ≤ end
  pub within : end ≤ length rows
  pub some : end - start ≤ length es
  pub holds : shown (take end rows) ≡ shown (take start was) ++ take (end - start) es

module _ {C : Type 0} where
  long : (rows : List (LabelRow C)) (n : ℕ) → n ≤ length rows → length (shown (take n rows)) ≡ n
  long rows n le = length-shown (take n rows) ∙ length-take-le n rows le

  filling_cell : (was rows : List (LabelRow C)) (start end : ℕ) (es : List (Label C)) → start ≤ length was → Filling was rows start end es → drop start (shown (take end rows)) ≡ take (end - start) es
  filling_cell was rows start end es le f = ap (drop start) f.holds ∙ drop_at (shown (take start was)) (take (end - start) es) start (long was start le)

  -- one row more
  row_more : (rows after : List (LabelRow C)) (end m : ℕ) (r : LabelRow C) → end ≤ length rows → Extended rows after end (shown_row (shown (take end rows)) r ∷ []) (Some m) → m ≡ end + 1
  row_more rows after end m r le g = omega (arith, sym (long after m g.0) ∙ ap length g.1 ∙ length_push (shown (take end rows)) (shown_row (shown (take end rows)) r), long rows end le)

  filling_more : (was rows after : List (LabelRow C)) (start end m : ℕ) (es : List (Label C)) (r : LabelRow C) → Filling was rows start end es → Extended rows after end (shown_row (shown (take end rows)) r ∷ []) (Some m) → end - start < length es → take (end - start + 1) es ≡ take (end - start) es ++ shown_row (shown (take end rows)) r ∷ [] → Filling was after start m es
  filling_more was rows after start end m es r f g some e =
      let next : m ≡ end + 1 = row_more rows after end m r f.within g in
      let on : m - start ≡ end - start + 1 = omega (arith, f.from) in
      record {
        from = omega (arith, f.from);
        within = g.0;
        some = omega (arith, f.from);
        holds =
            g.1
            ∙ ap (λ l. l ++ shown_row (shown (take end rows)) r ∷ []) f.holds
            ∙ append_assoc (shown (take start was)) (take (end - start) es) (shown_row (shown (take end rows)) r ∷ [])
            ∙ ap (λ l. shown (take start was) ++ l) (sym e)
            ∙ ap (λ n. shown (take start was) ++ take n es) (sym on);
      }

  -- what stood ready stays so as the cell grows
  pub filling_ready : (a : Asked C) (cell : Cell) (was rows : List (LabelRow C)) (starts : List ℕ) (start end : ℕ) (es : List (Label C)) → Ready a cell (take start was) starts → Filling was rows start end es → Ready a cell (take end rows) starts
  filling_ready a cell was rows starts start end es h f = record {
    table = h.table;
    runs = λ u lt. subst (λ l. Part starts l (cell.base + u) (get_or (row_of a cell.tick) u [])) (sym f.holds) (part_more starts (shown (take start was)) (take (end - start) es) (cell.base + u) (get_or (row_of a cell.tick) u []) (h.runs u lt));
    barred = h.barred;
  }

module _ {C : Type 0} (k : Kind C) (laws : Laws k) (xs : List (Label C)) (was rows : List (LabelRow C)) (start end : ℕ) (le : start ≤ length was) (f : Filling was rows start end (front_of k xs)) where
  -- what is selected next among the candidates
  abbrev next : Option (Label C)
  next = let es = drop start (shown (take end rows)) in picked k (passed_over k (last_cost k None es) es) None xs

  selected : next ≡ slice_get (front_of k xs) (end - start)
  selected = ap (λ es. picked k (passed_over k (last_cost k None es) es) None xs) (filling_cell was rows start end (front_of k xs) le f) ∙ picks_next k laws xs (end - start) (record { cost = k.zero; item = [] })

  filled_next : (r : LabelRow C) → Some (shown_row (shown (take end rows)) r) ≡ next → (end - start < length (front_of k xs)) × (take (end - start + 1) (front_of k xs) ≡ take (end - start) (front_of k xs) ++ shown_row (shown (take end rows)) r ∷ [])
  filled_next r h = nth_here (front_of k xs) (end - start) (shown_row (shown (take end rows)) r) (h ∙ selected)

  pub filled_more : (r : LabelRow C) (after : List (LabelRow C)) (m : ℕ) → Some (shown_row (shown (take end rows)) r) ≡ next → Extended rows after end (shown_row (shown (take end rows)) r ∷ []) (Some m) → Filling was after start m (front_of k xs)
  filled_more r after m h g = let n = filled_next r h in filling_more was rows after start end m (front_of k xs) r f g n.0 n.1

  -- what was selected, by what is known of the rows so far
  pub selects_next : (o : Option (LabelRow C)) (part : List (LabelRow C)) (from : ℕ) (last : Option C) → part ≡ take end rows → from ≡ start → last ≡ last_cost k None (drop start (shown (take end rows))) → Selects k part from last None xs o → shown_best (shown (take end rows)) o ≡ next
  selects_next o part from last e f g h =
      let ls = shown (take end rows) in
      ap (λ p. shown_best (shown p) o) (sym e)
      ∙ h
      ∙ ap (λ p. picked k (passed_over k last (drop from (shown p))) None xs) e
      ∙ ap (λ n. picked k (passed_over k last (drop n ls)) None xs) f
      ∙ ap (λ l. picked k (passed_over k l (drop start ls)) None xs) g

  -- there is one row more, or none where there is no room for it
  pub filled_on : (r : LabelRow C) (after : List (LabelRow C)) (m : ℕ) → Extended rows after end (shown_row (shown (take end rows)) r ∷ []) (Some m) → m ≡ end + 1
  filled_on r after m g = row_more rows after end m r f.within g

  pub filled_full : (r : LabelRow C) → Some (shown_row (shown (take end rows)) r) ≡ next → length was ≡ length rows → length rows < end + 1 → length was < start + length (front_of k xs)
  filled_full r h same full = omega (arith, (filled_next r h).0, f.from)

  pub filled_done : None ≡ next → Extended was rows start (front_of k xs) (Some end)
  filled_done h = (f.within, f.holds ∙ ap (λ l. shown (take start was) ++ l) (take_all (end - start) (front_of k xs) (nth_over (front_of k xs) (end - start) (record { cost = k.zero; item = [] }) (h ∙ selected))))
