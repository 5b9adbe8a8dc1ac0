use Rattle.std.proofs.Common.{length}
use Rattle.sites.specs.Heads.{Reached}
use Rattle.sites.proofs.bodies.read_records.Given as goal

abbrev pub invariant-loop-record : goal.invariant-loop-record
invariant-loop-record l = Reached l.rooms l.bytes l.records.rest.now l.line l.reading

abbrev pub decreases-loop-record : goal.decreases-loop-record
decreases-loop-record l = length l.records.rest.now
