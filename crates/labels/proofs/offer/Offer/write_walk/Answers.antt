use Rattle.std.proofs.Common.{◌≡◌, ◌+◌, ◌-◌, ◌++◌, reverse, length, drop, replicate, ap, ◌∙◌, arith}
use Rattle.std.proofs.lemmas.List.{length-append, length-replicate}
use Rattle.labels.specs.Rows.{shown, trace_at}
use Rattle.labels.proofs.Tracing.{walk_written}
use Rattle.labels.proofs.offer.Offer.write_walk.Goals as goal

pub returns : goal.returns
returns g c =
    let o = c.args.self.now in
    let x = o.arrivals.now in
    let us = trace_at (shown x.rows.now) o.label in
    let n = length c.args.places.now in
    let s = x.landing.horizon - o.tick in
    let long : length c.args.places.now ≡ s + length us = omega (arith, c.requires, length-append (replicate s x.landing.goal) us, length-replicate s x.landing.goal) in
    let stands : c.fill.new.self ≡ replicate n x.landing.goal = c.fill.ensures.after (λ y e. e) in
    ap (λ l. l ++ drop (n - s) c.fill.new.self) c.write_trace.ensures
    ∙ ap (λ l. reverse us ++ drop (n - s) l) stands
    ∙ walk_written us x.landing.goal s n long
