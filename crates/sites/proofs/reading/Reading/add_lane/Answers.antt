use Rattle.std.proofs.Common.{◌+◌, sym, ap, ◌∙◌}
use Rattle.std.proofs.lemmas.List.{length_push}
use Rattle.floors.specs.Lanes.{lane_count}
use Rattle.sites.proofs.Keeping.{lane_taken, lane_means, lane_counted}
use Rattle.sites.proofs.reading.Reading.add_lane.Goals as goal

pub returns-clause-taken : goal.returns-clause-taken
returns-clause-taken c s h =
    let row = c.args.row in
    let none = c.in_ok-add_lane.ensures.refusal in
    let more = c.in_ok-add_lane.ensures.moves in (
      lane_taken s.places s.lanes row _ h.floor h.counted none,
      record {
        horizon = h.horizon;
        entered = h.entered;
        carts = h.carts;
        rows = h.rows;
        floor = more ∙ lane_means s.places s.lanes row _ h.floor h.counted none;
        counted = ap lane_count more ∙ lane_counted s.places s.lanes row _ h.floor h.counted none;
        lanes = ap (λ n. n + 1) h.lanes ∙ sym (length_push s.lanes row);
        tariff = h.tariff;
      },
    )
