use Rattle.std.proofs.Common.{◌≡◌, ℕ, ◌+◌, ◌-◌, ◌<◌, true, false, get_or, take, drop, sym, ap, ◌∙◌, arith}
use Rattle.std.proofs.lemmas.List.{length-drop, length-take-le, get_or-take, get_or-drop}
use Rattle.labels.specs.Picks.{picked, better, passed_over}
use Rattle.labels.specs.declared.row.LabelRow.{LabelRow}
use Rattle.labels.specs.Rows.{shown, shown_row, shown_best, extended_by}
use Rattle.labels.proofs.Showing.{picked-at, better_became}
use Rattle.labels.proofs.rows.RowsSoFar.along.Goals as goal
use Rattle.labels.proofs.rows.RowsSoFar.along.Goals.{then-improves, else-improves}

pub loop-i-preserved : goal.loop-i-preserved
loop-i-preserved g c =
    let k = g.C.CostKind.kind in
    let so_far = c.args.self.now in
    let rows = so_far.rows.now in
    let ls = shown rows in
    let skip = passed_over k so_far.last (drop so_far.start ls) in
    let o = c.loop-i.best in
    let at = c.args.from + c.loop-i.i in
    let row = c.row-item.result in
    let n = c.args.to - c.args.from in
    let long = length-take-le n (drop c.args.from rows) (omega (arith, c.requires.within, length-drop c.args.from rows)) in
    let lt : c.loop-i.i < n = omega (arith, c.loop-i-test.true, long) in
    let same : row ≡ get_or rows at row = c.row-item.is ∙ get_or-take n (drop c.args.from rows) c.loop-i.i row lt ∙ get_or-drop c.args.from rows c.loop-i.i row in
    let on : at + 1 ≡ c.args.from + (c.loop-i.i + 1) = omega arith in
    let step = picked-at k rows c.args.to at row c.args.price c.args.place skip (shown_best ls o) (omega (arith, lt)) c.requires.within in
    let r : LabelRow g.row.C.Denot = record { cost = k.join (get_or rows at row).cost c.args.price; parent = at; place = c.args.place } in
    let cost = c.join-cost.ensures ∙ ap (λ x. k.join x.cost c.args.price) same in
    let by : better k skip (shown_best ls o) (shown_row ls r) ≡ shown_best ls c.if-improves.best = elim c.if-improves.branch [
      | then-improves w ↦ better_became k ls skip o _ _ _ _ _ true cost w.if-improves.ensures w.best-is
      | else-improves w ↦ better_became k ls skip o _ _ _ _ _ false cost w.if-improves.ensures w.best-is
    ] in
    let rest = λ (n : ℕ). extended_by k c.args.price c.args.place (drop n (take c.args.to ls)) in
    sym (step ∙ ap (λ p. picked k skip p (rest (at + 1))) by ∙ ap (λ n. picked k skip (shown_best ls c.if-improves.best) (rest n)) on) ∙ c.loop-i.invariant
