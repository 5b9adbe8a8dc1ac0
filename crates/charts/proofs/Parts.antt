-- Lists in parts: what is joined, how long it is, and where each part stands.
-- Assumes nothing.
use Rattle.std.proofs.Common.{◌≡◌, ℕ, ◌+◌, ◌<◌, ◌≤◌, List, [], ◌∷◌, ◌++◌, length, get_or, take, drop, set, sym, refl, ap, ◌∙◌, inl, inr, arith}
use Rattle.std.proofs.lemmas.Bool.{cases_eq}
use Rattle.std.proofs.lemmas.List.{append-nil, append_assoc, take-append-drop, take_more, take_all, take_at, length-append, length_push, drop_at, take-append-le, get_or-set_same, get_or-set_other}
use Rattle.rules.specs.Offers.{joined_lists, total_length}
use Rattle.charts.specs.Parts.{Marked, Part}

module _ {X : Type 0} where
  pub joined_append : (xs ys : List (List X)) → joined_lists (xs ++ ys) ≡ joined_lists xs ++ joined_lists ys
  joined_append [] ys = refl
  joined_append (x ∷ xs) ys = ap (λ l. x ++ l) (joined_append xs ys) ∙ sym (append_assoc x (joined_lists xs) (joined_lists ys))

  pub joined_push : (xs : List (List X)) (x : List X) → joined_lists (xs ++ x ∷ []) ≡ joined_lists xs ++ x
  joined_push xs x = joined_append xs (x ∷ []) ∙ ap (λ l. joined_lists xs ++ l) (append-nil x)

  pub total_append : (xs ys : List (List X)) → total_length (xs ++ ys) ≡ total_length xs + total_length ys
  total_append [] ys = omega arith
  total_append (x ∷ xs) ys = omega (arith, total_append xs ys)

  pub length_joined : (xs : List (List X)) → length (joined_lists xs) ≡ total_length xs
  length_joined [] = refl
  length_joined (x ∷ xs) = length-append x (joined_lists xs) ∙ ap (λ n. length x + n) (length_joined xs)

  pub total_more : (cells : List (List X)) (c : ℕ) → c < length cells → total_length (take (c + 1) cells) ≡ total_length (take c cells) + length (get_or cells c [])
  total_more cells c lt = ap total_length (take_more cells c [] lt) ∙ total_append (take c cells) (get_or cells c [] ∷ []) ∙ omega arith

  pub total_part : (cells : List (List X)) (c : ℕ) → total_length (take c cells) ≤ total_length cells
  total_part cells c = omega (arith, ap total_length (take-append-drop c cells), total_append (take c cells) (drop c cells))

  part_of : (cells : List (List X)) (c : ℕ) → c < length cells → drop (total_length (take c cells)) (take (total_length (take (c + 1) cells)) (joined_lists cells)) ≡ get_or cells c []
  part_of cells c lt =
      let whole : joined_lists cells ≡ joined_lists (take (c + 1) cells) ++ joined_lists (drop (c + 1) cells) = ap joined_lists (sym (take-append-drop (c + 1) cells)) ∙ joined_append (take (c + 1) cells) (drop (c + 1) cells) in
      let front : joined_lists (take (c + 1) cells) ≡ joined_lists (take c cells) ++ get_or cells c [] = ap joined_lists (take_more cells c [] lt) ∙ joined_push (take c cells) (get_or cells c []) in
      ap (λ l. drop (total_length (take c cells)) (take (total_length (take (c + 1) cells)) l)) whole
      ∙ ap (drop (total_length (take c cells))) (take_at (joined_lists (take (c + 1) cells)) (joined_lists (drop (c + 1) cells)) (total_length (take (c + 1) cells)) (length_joined (take (c + 1) cells)))
      ∙ ap (drop (total_length (take c cells))) front
      ∙ drop_at (joined_lists (take c cells)) (get_or cells c []) (total_length (take c cells)) (length_joined (take c cells))

  pub marked_none : (begins : List ℕ) → get_or begins 0 0 ≡ 0 → Marked {X = X} begins []
  marked_none begins e = record { at = λ c le. let z : c ≡ 0 = omega arith in ap (λ x. get_or begins x 0) z ∙ e ∙ ap (λ x. total_length (take {A = List X} x [])) (sym z) }

  pub marked_more : (begins : List ℕ) (cells : List (List X)) (cell : List X) (m n : ℕ) → Marked begins cells → m ≡ length cells + 1 → m < length begins → n ≡ total_length (cells ++ cell ∷ []) → Marked (set begins m n) (cells ++ cell ∷ [])
  marked_more begins cells cell m n marks e lt size = record {
    at = λ c le.
        elim (cases_eq c m) [
          | inl same ↦
              ap (λ x. get_or (set begins m n) x 0) same
              ∙ get_or-set_same begins m n 0 lt
              ∙ size
              ∙ ap total_length (sym (take_all c (cells ++ cell ∷ []) (omega (arith, length_push cells cell))))
          | inr ne ↦
              let old : c ≤ length cells = omega (arith, length_push cells cell) in
              get_or-set_other begins m c n 0 ne
              ∙ marks.at c old
              ∙ ap total_length (sym (take-append-le c cells (cell ∷ []) old))
        ];
  }

  -- a part stays where it is when the list grows
  pub part_more : (begins : List ℕ) (xs more : List X) (n : ℕ) (part : List X) → Part begins xs n part → Part begins (xs ++ more) n part
  part_more begins xs more n part h = record {
    up = h.up;
    within = omega (arith, h.within, length-append xs more);
    same = ap (drop (get_or begins n 0)) (take-append-le (get_or begins (n + 1) 0) xs more h.within) ∙ h.same;
  }

  -- each cell stands where the marks say
  pub part_at : (begins : List ℕ) (xs : List X) (cells : List (List X)) (more : List X) (c : ℕ) → xs ≡ joined_lists cells ++ more → Marked begins cells → c < length cells → Part begins xs c (get_or cells c [])
  part_at begins xs cells more c whole marks lt =
      let m = marks.at c (omega arith) in
      let m' = marks.at (c + 1) (omega arith) in
      let fits : total_length (take (c + 1) cells) ≤ length (joined_lists cells) = omega (arith, total_part cells (c + 1), length_joined cells) in
      record {
        up = omega (arith, total_more cells c lt);
        within = omega (arith, ap length whole, length-append (joined_lists cells) more);
        same =
            ap (λ a. drop a (take (get_or begins (c + 1) 0) xs)) m
            ∙ ap (λ a. drop (total_length (take c cells)) (take a xs)) m'
            ∙ ap (λ l. drop (total_length (take c cells)) (take (total_length (take (c + 1) cells)) l)) whole
            ∙ ap (drop (total_length (take c cells))) (take-append-le (total_length (take (c + 1) cells)) (joined_lists cells) more fits)
            ∙ part_of cells c lt;
      }
