use Rattle.std.proofs.Common.{◌≡◌, take, vec_items}
use Rattle.fronts.specs.Rows.{entries}
use Rattle.fronts.specs.Whole.{costs_of}
use Rattle.prices.specs.PriceLists.{said}
use Rattle.prices.proofs.page.write_page.Given as goal

abbrev pub invariant-loop-row : goal.invariant-loop-row
invariant-loop-row g l = vec_items l.out ≡ said g.C.Text.text (costs_of (entries (take l.row-index l.rows)))
