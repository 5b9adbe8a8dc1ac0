use Rattle.std.proofs.Common.{◌<◌, ◌≡◌, ℕ, true, length, get_or, All, sym, subst, rules}
use Rattle.std.proofs.lemmas.List.Elements.{All-from_get_or, All-from_recursion, recursion_from_All, All-map}
use Rattle.carts.specs.Carts.{cart_of}
use Rattle.carts.specs.declared.cart.Cart.{Cart as CartRow}
use Rattle.rules.specs.Instances.{Cart}
use Rattle.rules.proofs.Members.{all_of_map}
use Rattle.offer_pages.proofs.checks.on_floor.Goals as goal

pub returns : goal.returns
returns g c =
    let n = length (g.F.Floor.moves c.args.site.now.floor.now) in
    let carts = c.args.site.now.carts.now in
    let Inside : ℕ → Cart → Type 0 = λ m k. (k.start < m) × (k.goal < m) in
    let Q : ℕ → CartRow → Type 0 = λ m k. Inside m (cart_of k) in
    let yes : c.all.result ≡ true → (k : ℕ) → k < length carts → Q c.places-places.result (get_or carts k (record { start = 0; goal = 0 })) = λ e k h. search rules in
    let no : All (Q c.places-places.result) carts → c.all.result ≡ true = λ h. search rules in (
      λ e. recursion_from_All (Inside n) _ (All-map (Inside n) cart_of carts (subst (λ (m : ℕ). All (Q m) carts) c.places-places.ensures (All-from_get_or (Q c.places-places.result) carts (record { start = 0; goal = 0 }) (yes e)))),
      λ all. no (subst (λ (m : ℕ). All (Q m) carts) (sym c.places-places.ensures) (All-from_recursion (Q n) carts (all_of_map (Inside n) cart_of carts all))),
    )
