use Rattle.sites.proofs.LineReads.{number_unread, number_told, number_within}
use Rattle.sites.proofs.lines.number.Goals as goal

pub returns-in_err-ok : goal.returns-in_err-ok
returns-in_err-ok c = rw c.from_residual.ensures (number_unread c.args.bytes.now c.read_number.result c.read_number.ensures c.in_err-ok.ensures.value)

pub returns : goal.returns
returns c = rw c.ok-2.ensures.value (number_within c.args.bytes.now c.in_ok-ok.field-0 c.try_from.result (number_told c.args.bytes.now c.read_number.result c.in_ok-ok.field-0 c.read_number.ensures c.in_ok-ok.ensures.value) c.try_from.ensures)
