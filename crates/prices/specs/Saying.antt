-- Price lists, a line at a time.
-- Assumes nothing.
use Rattle.std.specs.Prelude.{◌≡◌, ℕ, ◌<◌, List, [], ◌∷◌, ◌++◌, length, vec_items, vec_len, Vec, refl}
use Rattle.std.proofs.Common.{ap, sym, ◌∙◌, append_assoc, arith}
use Rattle.std.specs.declared.alloc.Global.{Global}
use Rattle.std.proofs.lemmas.List.{append-nil, length-append, length-map, nil_from_length}
use Rattle.fronts.specs.Rows.{entry_of, entries}
use Rattle.fronts.specs.declared.row.Row.{Row}
use Rattle.digits.specs.Splits.{Without}
use Rattle.prices.specs.PriceLists.{said, costs_in}

module _ {C : Type 0} (line : C → List ℕ) where
  pub said_push : (cs : List C) (c : C) (rest : List ℕ) → said line cs ++ (line c ++ (10 ∷ rest)) ≡ said line (cs ++ (c ∷ [])) ++ rest
  said_push [] c rest = sym (append_assoc (line c) (10 ∷ []) rest)
  said_push (d ∷ cs) c rest =
      append_assoc (line d) (10 ∷ said line cs) (line c ++ (10 ∷ rest)) ∙
      ap (λ t. line d ++ (10 ∷ t)) (said_push cs c rest) ∙
      sym (append_assoc (line d) (10 ∷ said line (cs ++ (c ∷ []))) rest)

  -- one line more is read
  pub said_more : (input rest bytes below : List ℕ) (cs ds : List C) (c : C) → input ≡ said line cs ++ rest → rest ≡ bytes ++ (10 ∷ below) → bytes ≡ line c → ds ≡ cs ++ (c ∷ []) → input ≡ said line ds ++ below
  said_more input rest bytes below cs ds c was splits reads more =
      was ∙ ap (λ t. said line cs ++ t) (splits ∙ ap (λ t. t ++ (10 ∷ below)) reads) ∙ said_push cs c below ∙ ap (λ t. said line t ++ below) (sym more)

  -- no line is left
  pub said_all : (input rest : List ℕ) (cs : List C) → input ≡ said line cs ++ rest → length rest ≡ 0 → input ≡ said line cs
  said_all input rest cs was none = was ∙ ap (λ t. said line cs ++ t) (nil_from_length rest none) ∙ append-nil (said line cs)

pub shorter : (bytes below : List ℕ) → length below < length (bytes ++ (10 ∷ below))
shorter bytes below = omega (arith, length-append bytes (10 ∷ below))

-- rows are as many as their costs
pub counted : {C : Type 0} (v : Vec (Row C) Global) → vec_len v ≡ length (costs_in v)
counted v = v.ok.0 ∙ sym (length-map (entries (vec_items v)) (λ e. e.cost) ∙ length-map (vec_items v) entry_of)

-- what has no mark has none in the middle
pub not_within : (mark : ℕ) (l r : List ℕ) → Without mark (l ++ (mark ∷ r)) → ⊥
not_within mark [] r h = h.0 refl
not_within mark (b ∷ l) r h = not_within mark l r h.1
