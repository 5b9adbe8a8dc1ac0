use Rattle.std.proofs.Common.{arith}
use Rattle.sites.proofs.LineReads.{none_read, next_read, none_next, all_read}
use Rattle.sites.proofs.lines.numbers.Goals as goal

pub loop-number-init : goal.loop-number-init
loop-number-init g c = none_read c.args.bytes.now g.row.N

pub returns-in_err-value : goal.returns-in_err-value
returns-in_err-value g c =
    rw c.from_residual.ensures
    (none_next c.args.bytes.now c.loop-number.rest.now g.row.N c.loop-number.number-items c.loop-number.number-index c.loop-number.invariant (omega arith) c.in_err-value.ensures)

pub loop-number-preserved : goal.loop-number-preserved
loop-number-preserved g c =
    let read = c.in_ok-value.ensures in
    next_read c.args.bytes.now c.loop-number.rest.now g.row.N c.loop-number.number-items c.loop-number.number-index c.loop-number.invariant
    c.in_ok-value.value c.in_ok-value.below.now (omega arith) read.0 read.1 read.2

pub returns : goal.returns
returns g c =
    rw c.then_some.ensures
    (all_read c.args.bytes.now c.loop-number.rest.now g.row.N c.loop-number.number-items c.loop-number.number-index c.loop-number.invariant (omega arith) c.is_empty.result c.is_empty.ensures)
