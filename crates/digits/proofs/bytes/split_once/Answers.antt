use Rattle.std.proofs.Common.{◌≡◌, ℕ, ◌+◌, ◌-◌, ◌<◌, List, ◌∷◌, ◌++◌, length, get_or, take, drop, sym, ap, ◌∙◌, rules, arith, ◌≢◌}
use Rattle.std.proofs.lemmas.List.{take-append-drop, drop_more, take_rest, get_or-take, length-take}
use Rattle.std.proofs.lemmas.List.Elements.{All-from_get_or, recursion_from_All}
use Rattle.digits.specs.Splits.{Without}
use Rattle.digits.proofs.bytes.split_once.Goals as goal

split_here : (bs : List ℕ) (i b : ℕ) → i < length bs → get_or bs i 0 ≡ b → bs ≡ take i bs ++ (b ∷ take (length bs - (i + 1)) (drop (i + 1) bs))
split_here bs i b h e =
    sym (take-append-drop i bs) ∙
    ap (λ t. take i bs ++ t) (drop_more bs i 0 h ∙ ap (λ x. x ∷ drop (i + 1) bs) e ∙ ap (λ t. b ∷ t) (sym (take_rest bs (i + 1))))

before : (bs : List ℕ) (i b : ℕ) → i < length bs → ((k : ℕ) → k < i → get_or bs k 0 ≢ b) → Without b (take i bs)
before bs i b h apart =
    recursion_from_All (λ x. x ≢ b) (take i bs) (All-from_get_or (λ x. x ≢ b) (take i bs) 0 (λ k l e. let in' : k < i = omega (arith, length-take i bs, l, h) in apart k in' (sym (get_or-take i bs k 0 in') ∙ e)))

pub returns : goal.returns
returns c =
    let bs = c.args.bytes.now in
    let at = c.in_ok-at.at in
    let inside : at < length bs = search rules in
    (split_here bs at c.args.byte inside (search rules), before bs at c.args.byte inside (λ k h. search rules))
