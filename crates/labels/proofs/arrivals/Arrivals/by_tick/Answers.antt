use Rattle.std.proofs.Common.{◌≡◌, ◌+◌, ◌<◌, true, false, length, get_or, sym, refl, ap, ◌∙◌, arith}
use Rattle.labels.specs.declared.offer.Offer.{Offer}
use Rattle.labels.specs.Choices.{arrived, shown_offer, shown_lead}
use Rattle.labels.specs.Landings.{cell_of, run_of}
use Rattle.labels.specs.Picks.{picked, better, out_of_turn}
use Rattle.labels.proofs.Offering.{stood_from, run-at, run_end, lead_became}
use Rattle.labels.proofs.arrivals.Arrivals.by_tick.Goals as goal
use Rattle.labels.proofs.arrivals.Arrivals.by_tick.Goals.{then-is_better, else-is_better}

pub loop-at-init : goal.loop-at-init
loop-at-init g c = refl

pub loop-at-preserved : goal.loop-at-preserved
loop-at-preserved g c =
    let k = g.C.CostKind.kind in
    let x = c.args.self.now in
    let t = c.args.tick in
    let skip = out_of_turn k c.args.last (arrived x) in
    let o = c.loop-at.best in
    let i = c.loop-at.at in
    let d = c.index-run-at.result in
    let rows = run_of x.starts.now x.landing t x.rows.now in
    let lt : i < length (run_of x.starts.now x.landing t x.rows.now) = omega (arith, c.loop-at-test.true, ap length c.run-from.ensures.rows) in
    let new : Offer g.row.C.Denot = record { arrivals = c.args.self; cost = (get_or rows i d).cost; label = get_or x.starts.now (cell_of x.landing t) 0 + i; tick = t; timely = c.requires } in
    let same : c.index-run-at.result ≡ get_or rows i d = c.index-run-at.is ∙ ap (λ l. get_or l i d) c.run-from.ensures.rows in
    let found : Offer g.row.C.Denot = record { arrivals = c.args.self; cost = d.cost; label = c.run-from.result.0 + i; tick = t; timely = c.requires } in
    let is : found ≡ new = λ j. record { arrivals = c.args.self; cost = (same j).cost; label = c.run-from.ensures.from j + i; tick = t; timely = c.requires } in
    let by : better k skip (shown_lead o) (shown_offer new) ≡ shown_lead c.if-is_better.best = ap (λ y. better k skip (shown_lead o) (shown_offer y)) (sym is) ∙ elim c.if-is_better.branch [
      | then-is_better w ↦ lead_became k skip o _ _ true (sym w.if-is_better.true ∙ c.is_better.ensures) w.best-is
      | else-is_better w ↦ lead_became k skip o _ found false (sym w.if-is_better.false ∙ c.is_better.ensures) w.best-is
    ] in
    ap (λ p. picked k skip p (stood_from k skip c.args.self t c.requires (i + 1))) (sym by) ∙ sym (run-at k skip c.args.self t c.requires i d (shown_lead o) lt) ∙ c.loop-at.invariant

pub returns : goal.returns
returns g c =
    let k = g.C.CostKind.kind in
    let x = c.args.self.now in
    let skip = out_of_turn k c.args.last (arrived x) in
    sym (run_end k skip c.args.self c.args.tick c.requires c.loop-at.at (shown_lead c.loop-at.best) (omega (arith, c.loop-at-test.false, ap length c.run-from.ensures.rows))) ∙ c.loop-at.invariant
