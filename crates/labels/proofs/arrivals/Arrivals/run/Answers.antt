use Rattle.std.proofs.Common.{◌≡◌, ◌+◌, ◌-◌, get_or, take, drop, sym, ap, ◌∙◌, arith}
use Rattle.std.proofs.lemmas.List.{drop-take}
use Rattle.labels.specs.Landings.{cell_of}
use Rattle.labels.proofs.arrivals.Arrivals.run.Goals as goal

pub returns-clause-rows : goal.returns-clause-rows
returns-clause-rows g c =
    let x = c.args.self.now in
    let lo = get_or x.starts.now (cell_of x.landing c.args.tick) 0 in
    let hi = get_or x.starts.now (cell_of x.landing c.args.tick + 1) 0 in
    let up : lo + (hi - lo) ≡ hi = omega (arith, x.lands.up c.args.tick c.requires) in
    sym (ap (λ n. drop lo (take n x.rows.now)) (sym up) ∙ drop-take lo (hi - lo) x.rows.now)
