use Rattle.std.proofs.Common.{◌≡◌}
use Rattle.sites.proofs.SecondPass.{Passed}
use Rattle.sites.proofs.writing.write_rows.Given as goal

abbrev pub invariant-loop-record : goal.invariant-loop-record
invariant-loop-record l =
    record {
      same_lanes : l.lanes.table.ghost_name ≡ l.initial.lanes.table.ghost_name;
      same_tariff : l.tariff.table.ghost_name ≡ l.initial.tariff.table.ghost_name;
      passed : Passed l.bytes l.record-iterator.rest.now l.lanes.count l.tariff.count l.fn.lanes l.lanes.table.now l.fn.tariff l.tariff.table.now;
    }
