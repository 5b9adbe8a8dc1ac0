use Rattle.std.proofs.Common.{length, Some, None, append-nil, sym, ap, ◌∙◌, arith}
use Rattle.arrayvec.specs.ArrayVec.{ArrayVec}
use Rattle.floors.specs.declared.step.Step.{Step}
use Rattle.floors.specs.Grids.{side_moves}
use Rattle.floors.proofs.Cells.{side_more}
use Rattle.floors.proofs.grid.Grid.moves_from.Goals as goal
use Rattle.floors.proofs.grid.Grid.moves_from.Goals.{in-Some, in_default}

pub loop-side-preserved : goal.loop-side-preserved
loop-side-preserved c =
    let grid = c.args.self.now in
    let f = side_moves grid.width grid.height grid.cells.now c.args.place in
    let items = c.loop-side.moves.items in
    let more = c.match-step.moves.items in
    let i = c.loop-side.side-index in
    elim c.match-step.branch [
      | in-Some w ↦
          let now = ap (λ (l : ArrayVec Step). l.items) w.moves-is in
          record {
            few = omega (arith, ap length now, w.push.ensures.len, c.loop-side.invariant.few);
            so_far = side_more f items more (Some w.in-Some.step) i c.loop-side-test.true w.in-Some.ensures (now ∙ w.push.ensures.items) c.loop-side.invariant.so_far;
          }
      | in_default w ↦
          let now = ap (λ (l : ArrayVec Step). l.items) w.moves-is in
          record {
            few = omega (arith, ap length now, c.loop-side.invariant.few);
            so_far = side_more f items more None i c.loop-side-test.true w.in_default.ensures (now ∙ sym (append-nil items)) c.loop-side.invariant.so_far;
          }
    ]
