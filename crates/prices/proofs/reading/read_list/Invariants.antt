use Rattle.std.proofs.Common.{◌≡◌, ◌+◌, ◌≤◌, ◌++◌, length, vec_len}
use Rattle.prices.specs.PriceLists.{said, costs_in}
use Rattle.prices.proofs.reading.read_list.Given as goal

-- the costs so far, and then the rest
abbrev pub invariant-loop-bytes : goal.invariant-loop-bytes
invariant-loop-bytes g l =
    (l.input ≡ said g.C.Priced.line (costs_in l.rows) ++ l.rest) × (vec_len l.rows + length l.rest ≤ length l.input)

abbrev pub decreases-loop-bytes : goal.decreases-loop-bytes
decreases-loop-bytes g l = length l.rest
