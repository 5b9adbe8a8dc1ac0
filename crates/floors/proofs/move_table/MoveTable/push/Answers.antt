use Rattle.std.proofs.Common.{◌<◌, [], ◌∷◌, length, map, set, ap, ◌∙◌, arith, length-set}
use Rattle.std.proofs.lemmas.List.{length-map}
use Rattle.floors.specs.Floors.{move_of}
use Rattle.floors.specs.MoveTables.{extended}
use Rattle.floors.proofs.Tables.{held, pushed, refilled}
use Rattle.floors.proofs.move_table.MoveTable.push.Goals as goal

pub returns : goal.returns
returns c =
    let lists = c.self.inside.lists.items in
    let now = c.deref_mut.result.now in
    let after = c.push.new.self in
    let same = c.deref_mut.ensures.value in
    let n = c.from.result in
    let lt : n < length now = omega (arith, c.from.ensures, c.requires.from, ap length c.self.view_is, length-map lists held, ap length same) in
    ap (map held) (refilled lists (set now n after) (length-set now n after ∙ ap length same))
    ∙ pushed now n c.index-deref_mut-from.result after c.args.step lt c.push.ensures.items
    ∙ ap (λ ls. extended (map held ls) n (move_of c.args.step ∷ [])) same
    ∙ ap (λ ms. extended ms n (move_of c.args.step ∷ [])) c.self.view_is
    ∙ ap (λ k. extended c.args.self.now k (move_of c.args.step ∷ [])) c.from.ensures
