use Rattle.std.proofs.Common.{◌≡◌, ◌+◌, ◌-◌, false, not, get_or, sym, ap, ◌∙◌, subst, arith, rules, tests}
use Rattle.std.specs.List.{find}
use Rattle.std.specs.Range.{range_inclusive_end, range_inclusive_len, range_inclusive_left}
use Rattle.std.proofs.lemmas.Iterator.Adapters.{option_map_id}
use Rattle.std.proofs.lemmas.Iterator.Search.{find_from_yields_List}
use Rattle.labels.specs.Arrivals.{StandsFrom}
use Rattle.labels.specs.Queries.{asked, may_be_at}
use Rattle.labels.proofs.Arriving.{down, YieldsList-from_back, stands_after}
use Rattle.labels.proofs.Tabling.{goal_at}
use Rattle.labels.proofs.query.Query.stands_from.Goals as goal

pub returns : goal.returns
returns g c =
    let a = asked g.F.Floor.moves g.C.CostKind.kind g.B.Constrains.constraint c.args.self.now in
    let h = c.args.self.now.horizon in
    let place = (get_or c.args.self.now.carts.now c.args.self.now.cart (record { start = 0; goal = 0 })).goal in
    let all : h - 1 + 1 - (1 - h) ≡ h = omega arith in
    let made : down (range_inclusive_end c.new.result) (range_inclusive_left (λ x y. y - x) c.new.result) ≡ down h (range_inclusive_len (λ x y. y - x) 1 h false) = λ j. down (c.new.ensures.end j) (range_inclusive_len (λ x y. y - x) (c.new.ensures.start j) (c.new.ensures.end j) (c.new.ensures.exhausted j)) in
    let ticks = ap (λ r. down (range_inclusive_end r) (range_inclusive_left (λ x y. y - x) r)) c.rev.ensures.source ∙ made ∙ ap (down h) all in
    let found = find_from_yields_List (λ t. not (may_be_at a place t)) _ _ c.find.result c.find.ensures.ran (YieldsList-from_back (down h h) ticks) (λ t b f q. (search (rules, tests), let e : b ≡ not (may_be_at a place q.shown.now) = search (rules, tests) in e ∙ ap (λ m. not (may_be_at a place m)) q.shows)) in
    let goal = goal_at c.args.self.now.carts.now a.cart (record { start = 0; goal = 0 }) c.requires in
    let is = sym (option_map_id c.find.result) ∙ found ∙ ap (λ p. find (λ t. not (may_be_at a p t)) (down h h)) (sym goal) in
    subst (StandsFrom a) (sym c.unwrap_or.ensures) (stands_after a c.find.result is)
