-- Texts that grow by one number, one offer or one cart.
-- Assumes nothing.
use Rattle.std.proofs.Common.{◌≡◌, ℕ, zero, suc, ◌+◌, ◌<◌, ◌≤◌, List, [], ◌∷◌, ◌++◌, length, get_or, take, Some, None, Ok, Err, IsSome, decimal, Option, Result, sym, refl, ap, ◌∙◌, subst, arith}
use Rattle.std.specs.List.{range_with_len, flat_map, slice_get}
use Rattle.std.specs.Option.{option_map}
use Rattle.std.proofs.lemmas.List.FromFn.{map-range_with_len_more}
use Rattle.std.proofs.lemmas.List.{append_assoc, flat_map_more, map-id, take_all, take_more}
use Rattle.std.proofs.lemmas.Option.{slice_get-get_or}
use Rattle.labels.specs.declared.refusal.LabelRefusal.{LabelRefusal}
use Rattle.labels.specs.Answers.{told, cost_of, walked, walk_of}
use Rattle.rules.specs.Instances.{Instance, cart_count}
use Rattle.rules.specs.Offers.{Label}
use Rattle.sites.specs.Records.{numbers_text}
use Rattle.offer_pages.specs.Carts.{option_text, CartAdded, PageAdded}
use Rattle.offer_pages.specs.Conditions.{Checked, FailsAt}
use Rattle.offer_pages.specs.Texts.{heading_text, number_text, offer_text, cost_text, places_text, cart_text}
use Rattle.offer_pages.specs.declared.fault.Fault.{Fault}
use Rattle.pages.specs.declared.stop.Stop.{Stop}
use Rattle.pages.specs.declared.stop.Stop.TheVariants.{Memory, Refused}

pub numbers_joined : (ns : List ℕ) → numbers_text ns ≡ flat_map number_text ns
numbers_joined [] = refl
numbers_joined (n ∷ ns) = ap (λ t. 32 ∷ (decimal n ++ t)) (numbers_joined ns)

-- what was written grows by the part of one element more
module _ {X : Type 0} (part : X → List ℕ) (xs : List X) where
  pub grows : (start was after : List ℕ) (i : ℕ) (d : X) → i < length xs → was ≡ start ++ flat_map part (take i xs) → after ≡ was ++ part (get_or xs i d) → after ≡ start ++ flat_map part (take (i + 1) xs)
  grows start was after i d h e f =
      f ∙ ap (λ t. t ++ part (get_or xs i d)) e ∙ flat_map_more part start (take i xs) (get_or xs i d) ∙ ap (λ t. start ++ flat_map part t) (sym (take_more xs i d h))

  pub grown : (start was : List ℕ) (i : ℕ) → length xs ≤ i → was ≡ start ++ flat_map part (take i xs) → was ≡ start ++ flat_map part xs
  grown start was i h e = e ∙ ap (λ t. start ++ flat_map part t) (take_all i xs h)

-- the offer with a number, among those there are
pub option_at : {C : Type 0} (text : C → List ℕ) (os : List (Label C)) (n : ℕ) (d : Label C) → n < length os → option_text text (slice_get os n) ≡ offer_text text (get_or os n d)
option_at text os n d h = ap (option_text text) (slice_get-get_or os n d h)

pub counting_push : (n : ℕ) → range_with_len 0 (n + 1) ≡ range_with_len 0 n ++ n ∷ []
counting_push n =
    sym (map-id (range_with_len 0 (n + 1))) ∙ map-range_with_len_more (λ k. k) 0 n n (omega arith) ∙ ap (λ t. t ++ n ∷ []) (map-id (range_with_len 0 n))

-- one cart more
pub cart_grows : (part : ℕ → List ℕ) (was after : List ℕ) (n : ℕ) → was ≡ flat_map part (range_with_len 0 n) → after ≡ was ++ part n → after ≡ flat_map part (range_with_len 0 (n + 1))
cart_grows part was after n e f =
    f ∙ ap (λ t. t ++ part n) e ∙ flat_map_more part [] (range_with_len 0 n) n ∙ ap (flat_map part) (sym (counting_push n))

-- an offer's cost and then its places
pub offer_added : {C : Type 0} (text : C → List ℕ) (o : Option (Label C)) (cost : C) (start was mid after ps : List ℕ) → Some cost ≡ option_map (λ l. l.cost) o → ps ≡ walked o start → mid ≡ was ++ cost_text text cost → after ≡ mid ++ places_text ps → after ≡ was ++ option_text text o
offer_added text None cost start was mid after ps e p f g = let z : ◌≡◌ {A = ℕ} 0 1 = cc in absurd (omega arith)
offer_added text (Some o) cost start was mid after ps e p f g =
    let same : cost ≡ o.cost = cc in
    g ∙ ap (λ t. t ++ places_text ps) f ∙ append_assoc was (cost_text text cost) (places_text ps)
    ∙ ap (λ k. was ++ (cost_text text k ++ places_text ps)) same ∙ ap (λ t. was ++ (cost_text text o.cost ++ places_text t)) p

-- an answer that nothing hinders is the cost of the offer
pub answered : {C : Type 0} (h : Option LabelRefusal) (o : Option (Label C)) (r : Result (Option C) LabelRefusal) → h ≡ None → r ≡ cost_of (told h o) → r ≡ Ok (option_map (λ l. l.cost) o)
answered h o r e f = f ∙ ap (λ k. cost_of (told k o)) e

pub walk_written : {C : Type 0} (h : Option LabelRefusal) (o : Option (Label C)) (ps start : List ℕ) → h ≡ None → ps ≡ walk_of (told h o) start → ps ≡ walked o start
walk_written h o ps start e f = f ∙ ap (λ k. walk_of (told k o) start) e

-- an offer whose number is below their count is there
pub some_offer : {C : Type 0} (os : List (Label C)) (n : ℕ) → n < length os → IsSome (option_map (λ l. l.cost) (slice_get os n))
some_offer [] n h = absurd (omega arith)
some_offer (o ∷ os) zero h = refl
some_offer (o ∷ os) (suc n) h = some_offer os n (omega arith)

module _ {C : Type 0} (text : C → List ℕ) (i : Instance C) where
  -- a cart whose labels do not fit stops the page
  pub page_stopped : (cart : ℕ) (was after : List ℕ) (stop : Stop Fault) → cart < cart_count i → Checked i → CartAdded text i cart was after (Err stop) → PageAdded text i (Err stop)
  page_stopped cart was after Memory known c h = tt
  page_stopped cart was after (Refused fault) known c h =
      subst (FailsAt i) (sym h.0) (c, λ fit. omega (arith, fit cart known, h.1))

-- a cart's heading and then all its offers
pub cart_whole : {C : Type 0} (text : C → List ℕ) (cart count : ℕ) (os : List (Label C)) (start headed after line : List ℕ) → count ≡ length os → line ≡ heading_text cart count → headed ≡ start ++ line → after ≡ headed ++ flat_map (offer_text text) os → after ≡ start ++ cart_text text cart os
cart_whole text cart count os start headed after line n l e f =
    f ∙ ap (λ t. t ++ flat_map (offer_text text) os) (e ∙ ap (λ t. start ++ t) (l ∙ ap (heading_text cart) n)) ∙ append_assoc start (heading_text cart (length os)) (flat_map (offer_text text) os)
