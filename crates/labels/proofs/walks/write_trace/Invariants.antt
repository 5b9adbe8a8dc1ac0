use Rattle.std.proofs.Common.{◌≡◌, ◌-◌, ◌<◌, ◌≤◌, reverse, length, take, drop}
use Rattle.labels.specs.Rows.{shown, trace_at}
use Rattle.labels.proofs.walks.write_trace.Given as goal

abbrev pub invariant-loop-at : goal.invariant-loop-at
invariant-loop-at g l =
    let us = trace_at (shown l.rows) l.label in
    (l.at ≤ length us) × (drop l.at l.places ≡ reverse (take (length us - l.at) us)) × (0 < l.at → trace_at (shown l.rows) l.row ≡ drop (length us - l.at) us) × (0 < l.at → l.row < length l.rows)
