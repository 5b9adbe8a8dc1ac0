use Rattle.std.proofs.Common.{length, Ok, sym, ap, ◌∙◌, arith}
use Rattle.std.specs.List.{slice_get}
use Rattle.std.specs.Option.{option_map}
use Rattle.labels.specs.Answers.{told, cost_of, walked, walk_of}
use Rattle.labels.specs.Queries.{asked, offers_of}
use Rattle.labels.proofs.Answering.{offers_long, walk_promise, walk_unhindered}
use Rattle.labels.proofs.calls.take_offer.Goals as goal

pub write_offer-requires : goal.write_offer-requires
write_offer-requires g c =
    let a = asked g.F.Floor.moves g.C.CostKind.kind g.B.Constrains.constraint c.args.query.now in
    offers_long a c.arrivals_of-arrivals.result c.arrivals_of-arrivals.ensures (length c.args.places.now) c.if-places-query.false

pub returns : goal.returns
returns g c =
    let a = asked g.F.Floor.moves g.C.CostKind.kind g.B.Constrains.constraint c.args.query.now in
    let laid = c.in_ok-end.ensures in
    let rows = length c.args.rows.now in
    let was = c.args.places.now in
    let o = slice_get (offers_of a) c.args.number in
    let free = walk_unhindered a rows (length was) (omega (arith, c.if-places-query.false)) laid.0 in
    let cost = c.write_offer.ensures.cost ∙ ap (λ xs. option_map (λ e. e.cost) (slice_get xs c.args.number)) c.arrivals_of-arrivals.ensures.offers in
    let places = c.write_offer.ensures.places ∙ ap (λ xs. walked (slice_get xs c.args.number) was) c.arrivals_of-arrivals.ensures.offers in
    record {
      answer = ap Ok cost ∙ ap (λ e. cost_of (told e o)) (sym free);
      written = places ∙ ap (λ e. walk_of (told e o) was) (sym free);
      promise = λ inside. walk_promise a g.met.C.CostKind.laws (g.met.F.Floor.bounds c.args.query.now.floor.now) laid.1.known inside c.args.number was c.write_offer.new.places c.write_offer.result cost places;
    }
