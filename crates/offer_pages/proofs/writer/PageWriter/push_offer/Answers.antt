use Rattle.std.proofs.Common.{◌≡◌, ◌++◌, length, None, Some, Ok, vec_items, ap, ◌∙◌}
use Rattle.std.specs.List.{slice_get}
use Rattle.std.specs.Option.{option_map}
use Rattle.carts.specs.Carts.{constraint_of}
use Rattle.labels.specs.Answers.{walk_hindrance, walked}
use Rattle.labels.specs.Queries.{asked, offers_of}
use Rattle.offer_pages.proofs.Adding.{answered, walk_written, offer_added}
use Rattle.offer_pages.proofs.writer.PageWriter.push_offer.Goals as goal

pub returns-clause-added : goal.returns-clause-added
returns-clause-added g c =
    let a = asked g.F.Floor.moves g.C.CostKind.kind constraint_of c.args.query.now in
    let o = slice_get (offers_of a) c.args.number in
    let free : walk_hindrance a (length c.as_mut_slice.result.now) (length c.as_mut_slice-places.result.now) ≡ None =
    ap (λ rows. walk_hindrance a (length rows) (length c.as_mut_slice-places.result.now)) c.as_mut_slice.ensures.value ∙ ap (λ places. walk_hindrance a (length c.args.self.now.rows.items) (length places)) c.as_mut_slice-places.ensures.value ∙ c.requires.free in
    let e : c.take_offer.result ≡ Ok (option_map (λ l. l.cost) o) = answered _ o _ free c.take_offer.ensures.answer in
    let was = c.unwrap-offer.ensures in
    let there = c.unwrap-cost.ensures in
    let same : Some c.unwrap-cost.result ≡ option_map (λ l. l.cost) o = cc in
    let walk : c.take_offer.new.places ≡ walked o c.as_mut_slice-places.result.now = walk_written _ o c.take_offer.new.places c.as_mut_slice-places.result.now free c.take_offer.ensures.written in
    offer_added g.C.Text.text o c.unwrap-cost.result c.as_mut_slice-places.result.now (vec_items c.args.out.now) (vec_items c.push_line.new.out) (vec_items c.extend_from_slice.new.self) c.take_offer.new.places same
    walk c.in_ok-push_line.ensures
    (c.in_ok-extend_from_slice.ensures.items ∙ ap (λ t. vec_items c.push_line.new.out ++ t) (c.as_bytes.ensures.value ∙ c.in_ok-line.ensures.ok))
