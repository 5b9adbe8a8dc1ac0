use Rattle.std.proofs.Common.{◌≡◌, ℕ, ◌+◌, ◌-◌, ◌≤◌, List, [], ◌++◌, length, take, drop, set, ap, ◌∙◌, arith, length-take}
use Rattle.std.proofs.lemmas.List.{append-nil, drop_all}
use Rattle.costs.specs.Texts.{spaced}
use Rattle.costs.proofs.Puts.{length-spaced, put_parts}
use Rattle.costs.proofs.pair_kind.PairText.write_text.Goals as goal

pub returns : goal.returns
returns g c =
    let s = g.A.Text.text c.args.self.now.first in
    let t = g.B.Text.text c.args.self.now.second in
    let fits = c.in_ok-len.ensures in
    let first = rw c.unwrap-first.ensures at c.write_text.ensures in
    let second = rw c.unwrap.ensures at c.write_text-2.ensures in
    let over : drop (length t) (take (c.in_ok-len.len - (c.unwrap-first.result + 1)) (drop (c.unwrap-first.result + 1) (set c.write_text.new.out c.unwrap-first.result 32))) ≡ [] =
    drop_all (length t) _ (simp length-take (omega (arith, length-spaced s t, first.0))) in
    let whole : c.write_text-2.new.out ≡ t = second.2 ∙ ap (λ (l : List ℕ). t ++ l) over ∙ append-nil t in
    let room : length (spaced s t) ≤ length c.args.out.now = omega arith in
    (fits.0, room, put_parts s t c.args.out.now c.write_text.new.out c.write_text-2.new.out c.unwrap-first.result 32 c.in_ok-len.len first.0 fits.0 fits.1 first.2 whole)
