use Rattle.std.proofs.Common.{Ok, Err, Result, subst, rules}
use Rattle.std.proofs.lemmas.Result.{err_from_is_err_and}
use Rattle.carts.specs.declared.draft.Draft.{Draft}
use Rattle.floors.specs.declared.lane_floor.LaneFloor.{LaneFloor}
use Rattle.sites.specs.declared.refusal.SiteFault.{SiteFault}
use Rattle.sites.specs.Heads.{HorizonRead, PlacesRead}
use Rattle.sites.proofs.Results.{ok_was, fault_was}
use Rattle.sites.proofs.Reaching.{refused_at, first_refused, second_refused, third_reached}
use Rattle.sites.proofs.heads.read_head.Goals as goal

pub returns-in_err-draft : goal.returns-in_err-draft
returns-in_err-draft c =
    let left = c.from_residual.ensures.1 in
    let p = err_from_is_err_and c.from_residual.result left in
    let placed = fault_was _ 1 c.read_horizon.result c.in_err-draft.field-0.0 c.in_err-draft.ensures.cases (λ f k. search rules) in
    let P : Result Draft SiteFault → Type 0 = HorizonRead c.args.records.now.rest.now c.read_horizon.new.records.rest.now in
    let read : P (Err placed.0) = subst P placed.1 c.read_horizon.ensures in
    rw (p.1, p.2)
    (λ rooms. refused_at rooms c.args.records.now.rest.now 1 placed.0 c.in_err-draft.field-0.0 placed.2 (first_refused rooms c.args.records.now.rest.now placed.0 (read rooms)))

pub returns-in_err-floor : goal.returns-in_err-floor
returns-in_err-floor c =
    let bytes = c.args.records.now.rest.now in
    let left = c.read_horizon.new.records.rest.now in
    let draft = c.in_ok-draft.draft in
    let p = err_from_is_err_and c.from_residual-in_err-floor.result c.from_residual-in_err-floor.ensures.1 in
    let placed = fault_was _ 2 c.read_places.result c.in_err-floor.field-0.0 c.in_err-floor.ensures.cases (λ f k. search rules) in
    let H : Result Draft SiteFault → Type 0 = HorizonRead bytes left in
    let P : Result LaneFloor SiteFault → Type 0 = PlacesRead left c.read_places.new.records.rest.now in
    let first : H (Ok draft) = subst H (ok_was _ c.read_horizon.result draft c.in_ok-draft.ensures.cases) c.read_horizon.ensures in
    let read : P (Err placed.0) = subst P placed.1 c.read_places.ensures in
    rw (p.1, p.2)
    (λ rooms. refused_at rooms bytes 2 placed.0 c.in_err-floor.field-0.0 placed.2
    (second_refused rooms bytes left draft first.0 first.1 placed.0 (read rooms draft.horizon)))

pub returns : goal.returns
returns c rooms =
    let bytes = c.args.records.now.rest.now in
    let left = c.read_horizon.new.records.rest.now in
    let draft = c.in_ok-draft.draft in
    let floor = c.in_ok-floor.floor in
    let H : Result Draft SiteFault → Type 0 = HorizonRead bytes left in
    let P : Result LaneFloor SiteFault → Type 0 = PlacesRead left c.read_places.new.records.rest.now in
    let first : H (Ok draft) = subst H (ok_was _ c.read_horizon.result draft c.in_ok-draft.ensures.cases) c.read_horizon.ensures in
    let second : P (Ok floor) = subst P (ok_was _ c.read_places.result floor c.in_ok-floor.ensures.cases) c.read_places.ensures in
    third_reached rooms bytes left draft first.0 first.1 floor second.0 c.read_places.new.records.rest.now (record { start = 0; goal = 0 }) first.2 second.1 second.2 second.3
