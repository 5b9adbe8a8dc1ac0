use Rattle.std.proofs.Common.{◌≡◌, ℕ, List, [], ◌++◌, take, IfSome, Some, None, Option, ap, ◌∙◌, subst}
use Rattle.std.specs.Option.{option_map}
use Rattle.pages.proofs.input.read_input.Goals as goal

-- what is appended to nothing, of an input that is cut off
cut_off : (given : Option (List ℕ)) (limit : ℕ) (start out : List ℕ) → limit ≡ 16385 → start ≡ [] → IfSome (option_map (take limit) given) (λ xs. out ≡ start ++ xs) → IfSome given (λ xs. out ≡ take 16385 xs)
cut_off None limit start out l s h = tt
cut_off (Some xs) limit start out l s h = h ∙ ap (λ t. t ++ take limit xs) s ∙ ap (λ n. take n xs) l

pub returns : goal.returns
returns g c =
    subst (λ (r : g.row.R.Denot). IfSome (g.R.Read.remaining r) (λ xs. c.read_to_end.new.buf.items ≡ take 16385 xs)) c.take.ensures.inner
    (cut_off (g.R.Read.remaining c.take.result.inner) c.take.result.limit c.new-bytes.result.items c.read_to_end.new.buf.items
    c.take.ensures.limit c.new-bytes.ensures.items c.in_ok-read_to_end.ensures.bytes)
