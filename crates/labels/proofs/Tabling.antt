-- The tables, cell by cell and tick by tick.
-- Assumes nothing.
use Rattle.std.proofs.Common.{◌≡◌, ℕ, zero, suc, ◌+◌, ◌*◌, ◌<◌, ◌≤◌, Bool, cond, ◌&&◌, eqb, List, [], ◌∷◌, ◌++◌, map, length, get_or, take, set, Some, None, sym, refl, ap, ◌∙◌, subst, inl, inr, mul-le-mul_right, suc-mul, arith}
use Rattle.std.specs.List.{range_with_len}
use Rattle.std.proofs.lemmas.Bool.{cases_eq}
use Rattle.std.proofs.lemmas.List.{append-nil, append_assoc, take_more, take_all, length-take-le, length-append, length-set, get_or_append_left, get_or-append-add, length-map, get_or-map, get_or_past, take_more_set}
use Rattle.std.proofs.lemmas.List.FromFn.{get_or-map-range_with_len, length-map-range_with_len, map-range_with_len_more}
use Rattle.carts.specs.Carts.{cart_of}
use Rattle.carts.specs.declared.cart.Cart.{Cart}
use Rattle.rules.specs.Fronts.{front_of}
use Rattle.rules.specs.Instances.{Cart as CartMeant, start_of}
use Rattle.rules.specs.Offers.{Label, joined_lists, total_length}
use Rattle.labels.specs.declared.layer.Layer.{Layer}
use Rattle.labels.specs.declared.list.LabelList.{LabelList}
use Rattle.labels.specs.declared.row.LabelRow.{LabelRow}
use Rattle.labels.specs.Cells.{Runs}
use Rattle.labels.specs.Lists.{Extended, Lends, Grown}
use Rattle.charts.specs.Parts.{Part}
use Rattle.labels.specs.Queries.{Asked, row_of, place_count, may_be_at, reaching, label_total}
use Rattle.labels.specs.Rows.{shown, shown_row, trace_at}
use Rattle.labels.specs.Seeking.{busy_at}
use Rattle.labels.specs.Tables.{Hold, Filled, Laid, cells_before, all_cells}
use Rattle.charts.proofs.Parts.{joined_push, total_append, length_joined, total_more, total_part, marked_none, marked_more, part_at}
use Rattle.labels.proofs.Showing.{shown_push, length-shown}

-- a cart's places, as the code reads them
pub start_at : (cs : List Cart) (n : ℕ) (d : Cart) → n < length cs → (get_or (map cart_of cs) n (record { start = 0; goal = 0 })).start ≡ (get_or cs n d).start
start_at cs n d lt = ap (λ (x : CartMeant). x.start) (get_or-map cart_of cs n d (record { start = 0; goal = 0 }) lt)

pub goal_at : (cs : List Cart) (n : ℕ) (d : Cart) → n < length cs → (get_or (map cart_of cs) n (record { start = 0; goal = 0 })).goal ≡ (get_or cs n d).goal
goal_at cs n d lt = ap (λ (x : CartMeant). x.goal) (get_or-map cart_of cs n d (record { start = 0; goal = 0 }) lt)

module _ {C : Type 0} where
  -- the parts of a row that the tables hold
  hold_runs : (rows : List (LabelRow C)) (starts : List ℕ) (before row more : List (List (Label C))) (n : ℕ) → Hold rows starts ((before ++ row) ++ more) n → Runs starts (length before) (shown (take n rows)) row (length row)
  hold_runs rows starts before row more n h = λ u lt.
      let cells = (before ++ row) ++ more in
      let all : length cells ≡ length before + length row + length more = length-append (before ++ row) more ∙ ap (λ x. x + length more) (length-append before row) in
      let in_row : length before + u < length (before ++ row) = omega (arith, length-append before row) in
      let is : get_or cells (length before + u) [] ≡ get_or row u [] = get_or_append_left (before ++ row) more [] (length before + u) in_row ∙ get_or-append-add before row u [] in
      subst (Part starts (shown (take n rows)) (length before + u)) is
      (part_at starts (shown (take n rows)) cells [] (length before + u) (h.labels ∙ sym (append-nil (joined_lists cells))) h.marks (omega (arith, all)))

  -- one cell more
  hold_more : (rows after : List (LabelRow C)) (starts : List ℕ) (cells : List (List (Label C))) (cell : List (Label C)) (m n k : ℕ) → Hold rows starts cells n → Extended rows after n cell (Some k) → m ≡ length cells + 1 → m < length starts → Hold after (set starts m k) (cells ++ cell ∷ []) k
  hold_more rows after starts cells cell m n k h g e lt =
      let labels : shown (take k after) ≡ joined_lists (cells ++ cell ∷ []) = g.1 ∙ ap (λ l. l ++ cell) h.labels ∙ sym (joined_push cells cell) in
      let size : k ≡ total_length (cells ++ cell ∷ []) = sym (length-shown (take k after) ∙ length-take-le k after g.0) ∙ ap length labels ∙ length_joined (cells ++ cell ∷ []) in
      record { within = g.0; labels = labels; marks = marked_more starts cells cell m k h.marks e lt size }

  pub hold_size : (rows : List (LabelRow C)) (starts : List ℕ) (cells : List (List (Label C))) (n : ℕ) → Hold rows starts cells n → n ≡ total_length cells
  hold_size rows starts cells n h = sym (length-shown (take n rows) ∙ length-take-le n rows h.within) ∙ ap length h.labels ∙ length_joined cells

  hold_none : (rows : List (LabelRow C)) (starts : List ℕ) → get_or starts 0 0 ≡ 0 → Hold rows starts [] 0
  unfolding shown
  hold_none rows starts e = record { within = omega arith; labels = refl; marks = marked_none starts e }

  pub lends_on : (was between after : LabelList C) → Lends was between → Lends between after → Lends was after
  lends_on was between after f g = record { same = g.same ∙ f.same; long = g.long ∙ f.long }

  -- nothing more, and one label more
  pub grown_none : (l : LabelList C) (cell : List (Label C)) → [] ≡ cell → Grown l l cell (Some tt)
  grown_none l cell e = subst (λ ls. Grown l l ls (Some tt)) e (record { lends = record { same = refl; long = refl }; more = (l.within, sym (append-nil (shown (take l.count l.rows.now)))) })

  pub grown_one : (rows : List (LabelRow C)) (n : ℕ) (r : LabelRow C) → n < length rows → Extended rows (set rows n r) n (shown_row (shown (take n rows)) r ∷ []) (Some (n + 1))
  grown_one rows n r lt = (omega (arith, length-set rows n r), ap shown (take_more_set rows n r lt) ∙ shown_push (take n rows) r)

module _ {C : Type 0} (a : Asked C) where
  pub length_row : (t : ℕ) → length (row_of a t) ≡ place_count a
  length_row zero = length-map-range_with_len _ 0 (place_count a)
  length_row (suc t) = length-map-range_with_len _ 0 (place_count a)

  -- the cell of p at tick 0, and at a later one
  pub first_cell : (p : ℕ) (here may : Bool) → p < place_count a → here ≡ eqb p (start_of a.inst a.cart) → may ≡ may_be_at a p 0 → cond (here && may) (record { cost = a.inst.kind.zero; item = p ∷ [] } ∷ []) [] ≡ get_or (row_of a 0) p []
  first_cell p here may lt e f =
      let one : List (Label C) = record { cost = a.inst.kind.zero; item = p ∷ [] } ∷ [] in
      ap (λ x. cond (x && may) one []) e ∙ ap (λ x. cond (eqb p (start_of a.inst a.cart) && x) one []) f ∙ sym (get_or-map-range_with_len _ 0 (place_count a) p p [] lt (omega arith))

  pub later_cell : (t t' p : ℕ) (may : Bool) → t ≡ suc t' → p < place_count a → may ≡ may_be_at a p t → cond may (front_of a.inst.kind (reaching a t' p)) [] ≡ get_or (row_of a t) p []
  later_cell t t' p may s lt e =
      ap (λ x. cond x (front_of a.inst.kind (reaching a t' p)) []) (e ∙ ap (may_be_at a p) s)
      ∙ sym (get_or-map-range_with_len _ 0 (place_count a) p p [] lt (omega arith))
      ∙ ap (λ x. get_or (row_of a x) p []) (sym s)

  -- the first label goes on from no row
  pub first_label : (rows : List (LabelRow C)) (n p : ℕ) (z : C) → n ≤ length rows → length rows ≤ 65535 → z ≡ a.inst.kind.zero → shown_row (shown (take n rows)) (record { cost = z; parent = 65535; place = p }) ≡ record { cost = a.inst.kind.zero; item = p ∷ [] }
  first_label rows n p z le few e =
      let long : length (shown (take n rows)) ≡ n = length-shown (take n rows) ∙ length-take-le n rows le in
      let past : trace_at (shown (take n rows)) 65535 ≡ [] = get_or_past (map (λ (l : Label C). l.item) (shown (take n rows))) 65535 [] (omega (arith, length-map (shown (take n rows)) (λ (l : Label C). l.item))) in
      λ j. record { cost = e j; item = p ∷ past j }

  cells_on : (t : ℕ) → cells_before a (suc t) ≡ cells_before a t ++ row_of a t
  unfolding cells_before
  cells_on t = refl

  length_cells_on : (t : ℕ) → length (cells_before a (suc t)) ≡ length (cells_before a t) + place_count a
  length_cells_on t = ap length (cells_on t) ∙ length-append (cells_before a t) (row_of a t) ∙ ap (λ n. length (cells_before a t) + n) (length_row t)

  -- the runs of the tick before
  pub runs_before : (t t' base : ℕ) (rows : List (LabelRow C)) (starts : List ℕ) (more : List (List (Label C))) (n : ℕ) → t ≡ suc t' → base ≡ length (cells_before a t') → Hold rows starts (cells_before a t ++ more) n → Runs starts base (shown (take n rows)) (row_of a t') (place_count a)
  runs_before t t' base rows starts more n s b h =
      let cells : cells_before a t ≡ cells_before a t' ++ row_of a t' = ap (cells_before a) s ∙ cells_on t' in
      let h' : Hold rows starts ((cells_before a t' ++ row_of a t') ++ more) n = subst (λ l. Hold rows starts (l ++ more) n) cells h in
      subst (λ m. Runs starts m (shown (take n rows)) (row_of a t') (place_count a)) (sym b)
      (subst (Runs starts (length (cells_before a t')) (shown (take n rows)) (row_of a t')) (length_row t') (hold_runs rows starts (cells_before a t') (row_of a t') more n h'))

  -- the beginnings of the tick before are in the table too
  pub table_before : (t t' base before m : ℕ) → t ≡ suc t' → base ≡ length (cells_before a t) → before ≡ length (cells_before a t') → base + place_count a < m → before + place_count a < m
  table_before t t' base before m s b b' lt = omega (arith, ap (λ x. length (cells_before a x)) s, length_cells_on t')

  -- one cell more of a tick
  pub tick_more : (t p : ℕ) (rows after : List (LabelRow C)) (starts : List ℕ) (base n m : ℕ) → p < place_count a → base ≡ length (cells_before a t) → base + place_count a < length starts → Hold rows starts (cells_before a t ++ take p (row_of a t)) n → Extended rows after n (get_or (row_of a t) p []) (Some m) → Hold after (set starts (base + p + 1) m) (cells_before a t ++ take (p + 1) (row_of a t)) m
  tick_more t p rows after starts base n m lt b room h g =
      let row = row_of a t in
      let before = cells_before a t in
      let in_row : p < length (row_of a t) = omega (arith, length_row t) in
      let part : length (take p (row_of a t)) ≡ p = length-take-le p (row_of a t) (omega arith) in
      let size : base + p + 1 ≡ length (cells_before a t ++ take p (row_of a t)) + 1 = omega (arith, length-append before (take p row)) in
      let cells : (cells_before a t ++ take p (row_of a t)) ++ get_or (row_of a t) p [] ∷ [] ≡ cells_before a t ++ take (p + 1) (row_of a t) = append_assoc before (take p row) (get_or row p [] ∷ []) ∙ ap (λ l. before ++ l) (sym (take_more row p [] in_row)) in
      subst (λ l. Hold after (set starts (base + p + 1) m) l m) cells
      (hold_more rows after starts (before ++ take p row) (get_or row p []) (base + p + 1) n m h g size (omega arith))

  pub tick_all : (t p : ℕ) (rows : List (LabelRow C)) (starts : List ℕ) (n : ℕ) → place_count a ≤ p → Hold rows starts (cells_before a t ++ take p (row_of a t)) n → Hold rows starts (cells_before a (suc t)) n
  tick_all t p rows starts n le h = subst (λ l. Hold rows starts l n) (ap (λ l. cells_before a t ++ l) (take_all p (row_of a t) (omega (arith, length_row t))) ∙ sym (cells_on t)) h

  -- no room for a cell
  pub tick_full : (t p : ℕ) (rows after : List (LabelRow C)) (starts : List ℕ) (n : ℕ) → p < place_count a → Hold rows starts (cells_before a t ++ take p (row_of a t)) n → Extended rows after n (get_or (row_of a t) p []) None → length rows < total_length (cells_before a (suc t))
  tick_full t p rows after starts n lt h g =
      let row = row_of a t in
      let before = cells_before a t in
      let in_row : p < length (row_of a t) = omega (arith, length_row t) in
      omega (arith, g, hold_size rows starts (before ++ take p row) n h, total_append before (take p row), total_append before row, ap total_length (cells_on t), total_more row p in_row, total_part row (p + 1))

  -- the ticks
  count_is : (t : ℕ) → cells_before a t ≡ joined_lists (map (row_of a) (range_with_len 0 t))
  unfolding cells_before
  count_is zero = refl
  count_is (suc t) =
      let on : suc t ≡ t + 1 = omega arith in
      ap (λ l. l ++ row_of a t) (count_is t)
      ∙ sym (ap (λ n. joined_lists (map (row_of a) (range_with_len 0 n))) on ∙ ap joined_lists (map-range_with_len_more (row_of a) 0 t t (omega arith)) ∙ joined_push (map (row_of a) (range_with_len 0 t)) (row_of a t))

  label_total_is : total_length (all_cells a) ≡ label_total a
  label_total_is = ap total_length (count_is (suc a.inst.horizon))

  total_mono : (s t : ℕ) → s ≤ t → total_length (cells_before a s) ≤ total_length (cells_before a t)
  total_mono s zero le = let e : s ≡ 0 = omega arith in omega (arith, ap (λ x. total_length (cells_before a x)) e)
  total_mono s (suc t) le = elim (cases_eq s (suc t)) [
    | inl e ↦ omega (arith, ap (λ x. total_length (cells_before a x)) e)
    | inr ne ↦ omega (arith, total_mono s t (omega arith), ap total_length (cells_on t), total_append (cells_before a t) (row_of a t))
  ]

  pub length_cells : (t : ℕ) → length (cells_before a t) ≡ t * place_count a
  unfolding cells_before
  length_cells zero = omega arith
  length_cells (suc t) = length_cells_on t ∙ omega (arith, length_cells t, suc-mul t (place_count a))

  -- no room for a tick
  pub ticks_full : (t n : ℕ) → t ≤ a.inst.horizon → n < total_length (cells_before a (suc t)) → n < label_total a
  ticks_full t n le lt = omega (arith, total_mono (suc t) (suc a.inst.horizon) (omega arith), label_total_is)

  -- 65 ticks of 128 places have their beginnings in the table
  pub table_room : (t base : ℕ) → t ≤ 64 → place_count a ≤ 128 → base ≡ length (cells_before a t) → base + place_count a < 8321
  table_room t base le few b = omega (arith, length_cells t, mul-le-mul_right (place_count a) le)

  pub ticks_all : (t n : ℕ) (rows : List (LabelRow C)) (starts : List ℕ) → t ≡ suc a.inst.horizon → Hold rows starts (cells_before a t) n → Filled a rows starts (Some n)
  ticks_all t n rows starts e h =
      let h' : Hold rows starts (all_cells a) n = subst (λ x. Hold rows starts (cells_before a x) n) e h in
      (hold_size rows starts (all_cells a) n h' ∙ label_total_is, h')

  pub hold_start : (rows : List (LabelRow C)) (starts : List ℕ) → get_or starts 0 0 ≡ 0 → Hold rows starts (cells_before a 0) 0
  unfolding cells_before
  hold_start rows starts e = hold_none rows starts e

  -- the layer of a tick
  pub laid : (layer : Layer) (n : ℕ) → n ≡ place_count a → layer.base ≡ layer.tick * n → layer.busy ≡ busy_at a layer.tick → layer.tick ≤ 64 → place_count a ≤ 128 → Laid a layer
  laid layer n e b busy le few =
      let base : layer.base ≡ length (cells_before a layer.tick) = b ∙ ap (λ x. layer.tick * x) e ∙ sym (length_cells layer.tick) in
      record { busy = busy; base = base; room = table_room layer.tick layer.base le few base }

  -- the cells of a tick, among all
  cells_split : (t h : ℕ) → t ≤ h → (more : List (List (Label C))) × (cells_before a (suc h) ≡ (cells_before a t ++ row_of a t) ++ more)
  cells_split t zero le =
      let e : t ≡ 0 = omega arith in
      ([], cells_on 0 ∙ ap (λ x. cells_before a x ++ row_of a x) (sym e) ∙ sym (append-nil (cells_before a t ++ row_of a t)))
  cells_split t (suc h) le = elim (cases_eq t (suc h)) [
    | inl e ↦ ([], cells_on (suc h) ∙ ap (λ x. cells_before a x ++ row_of a x) (sym e) ∙ sym (append-nil (cells_before a t ++ row_of a t)))
    | inr ne ↦
        let s = cells_split t h (omega arith) in
        (s.0 ++ row_of a (suc h), cells_on (suc h) ∙ ap (λ l. l ++ row_of a (suc h)) s.1 ∙ append_assoc (cells_before a t ++ row_of a t) s.0 (row_of a (suc h)))
  ]

  -- the labels of a place at a tick stand where the beginnings say
  pub tick_run : (t p base : ℕ) (rows : List (LabelRow C)) (starts : List ℕ) (n : ℕ) → t ≤ a.inst.horizon → p < place_count a → base ≡ length (cells_before a t) → Hold rows starts (all_cells a) n → Part starts (shown (take n rows)) (base + p) (get_or (row_of a t) p [])
  tick_run t p base rows starts n le lt b h =
      let s = cells_split t a.inst.horizon le in
      let h' : Hold rows starts ((cells_before a t ++ row_of a t) ++ s.0) n = subst (λ l. Hold rows starts l n) s.1 h in
      subst (λ m. Part starts (shown (take n rows)) (m + p) (get_or (row_of a t) p [])) (sym b) (hold_runs rows starts (cells_before a t) (row_of a t) s.0 n h' p (omega (arith, length_row t)))
