-- Rows written one after another at the front of a table. Assumes nothing.
use Rattle.std.proofs.Common.{◌≡◌, ℕ, suc, ◌+◌, ◌<◌, List, [], ◌∷◌, ◌++◌, length, take, drop, set, sym, refl, ap, ◌∙◌, add-one, arith}
use Rattle.std.proofs.lemmas.List.{append_assoc, drop_at, drop-drop, length-append, length-set, set_split, take_at, take_more_set, drop-set-lt}
use Rattle.sites.specs.Writing.{put, filled}

module _ {X : Type 0} (table : List X) (n : ℕ) where
  pub put_one : (x : X) → n < length table → set table n x ≡ put table n (x ∷ [])
  put_one x h = set_split table n x h ∙ ap (λ m. take n table ++ (x ∷ drop m table)) (sym (add-one n))

  pub put_two : (x y : X) → n + 1 < length table → set (set table n x) (n + 1) y ≡ put table n (x ∷ (y ∷ []))
  put_two x y h =
      let once = length-set table n x in
      let e : ◌≡◌ {A = ℕ} (suc (n + 1)) (n + 2) = omega arith in
      set_split (set table n x) (n + 1) y (omega arith)
      ∙ ap (λ t. t ++ (y ∷ drop (suc (n + 1)) (set table n x))) (take_more_set table n x (omega arith))
      ∙ append_assoc (take n table) (x ∷ []) _
      ∙ ap (λ t. take n table ++ (x ∷ (y ∷ t))) (drop-set-lt (suc (n + 1)) table n x (omega arith) ∙ ap (λ m. drop m table) e)

-- rows after the rows that are written
pub put-filled : {X : Type 0} (xs ys table : List X) → put (filled xs table) (length xs) ys ≡ filled (xs ++ ys) table
put-filled xs ys table =
    let size = length-append xs ys in
    ap (λ t. t ++ (ys ++ drop (length xs + length ys) (filled xs table))) (take_at xs (drop (length xs) table) (length xs) refl)
    ∙ ap (λ t. xs ++ (ys ++ t))
    (sym (drop-drop (length ys) (length xs) (filled xs table))
    ∙ ap (drop (length ys)) (drop_at xs (drop (length xs) table) (length xs) refl)
    ∙ drop-drop (length ys) (length xs) table
    ∙ ap (λ m. drop m table) (sym size))
    ∙ sym (append_assoc xs ys (drop (length (xs ++ ys)) table))
