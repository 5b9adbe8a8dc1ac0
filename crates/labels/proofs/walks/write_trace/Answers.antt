use Rattle.std.proofs.Common.{◌≡◌, ◌-◌, ◌<◌, ◌≤◌, reverse, length, get_or, take, drop, sym, ap, ◌∙◌, arith}
use Rattle.std.proofs.lemmas.List.{drop_all, take_all, length-drop}
use Rattle.labels.specs.Rows.{shown, trace_at}
use Rattle.labels.proofs.Tracing.{trace_place, trace_parent, next_place, row_inside, written_more}
use Rattle.labels.proofs.walks.write_trace.Goals as goal

pub loop-at-init : goal.loop-at-init
loop-at-init g c =
    let us = trace_at (shown c.args.rows.now) c.args.label in
    let none : length us - length c.args.places.now ≡ 0 = omega (arith, c.requires) in (
      omega (arith, c.requires),
      drop_all (length c.args.places.now) c.args.places.now (omega arith) ∙ ap (λ n. reverse (take n us)) (sym none),
      λ _. ap (λ n. drop n us) (sym none),
      λ some. row_inside us (length c.args.places.now) some (omega (arith, c.requires)) c.args.rows.now c.args.label (ap (λ n. drop n us) (sym none)),
    )

pub loop-at-preserved : goal.loop-at-preserved
loop-at-preserved g c =
    let rows = c.args.rows.now in
    let us = trace_at (shown rows) c.args.label in
    let left = c.loop-at.at in
    let some = c.loop-at-test.true in
    let le = c.loop-at.invariant.0 in
    let d = c.index-rows-row.result in
    let here = c.loop-at.invariant.2 some ∙ next_place us left some le in
    let rest = drop (length us - (left - 1)) us in
    let place = trace_place rows c.loop-at.row (get_or us (length us - left) 0) rest d here in
    let long : length c.loop-at.places ≡ length us = c.loop-at.auto.places ∙ sym c.requires in
    let parent = λ (more : 0 < left - 1). trace_parent rows c.loop-at.row (get_or us (length us - left) 0) rest c.index-rows-row-in-loop-at.result here (omega (arith, length-drop (length us - (left - 1)) us)) in (
      omega (arith, le),
      written_more us left some le c.loop-at.places _ long place c.loop-at.invariant.1,
      parent,
      λ more. row_inside us (left - 1) more (omega (arith, le)) rows _ (parent more),
    )

pub returns : goal.returns
returns g c =
    let us = trace_at (shown c.args.rows.now) c.args.label in
    let none : c.loop-at.at ≡ 0 = omega (arith, c.loop-at-test.false) in
    let all : length us ≤ length us - c.loop-at.at = omega arith in
    ap (λ n. drop n c.loop-at.places) (sym none) ∙ c.loop-at.invariant.1 ∙ ap reverse (take_all (length us - c.loop-at.at) us all)
