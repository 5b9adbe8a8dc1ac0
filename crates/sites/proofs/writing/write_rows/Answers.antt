use Rattle.std.proofs.Common.{List, ℕ, refl, sym, ap, ◌∙◌, subst, rules}
use Rattle.sites.proofs.SecondPass.{Passed, none_passed, next_passed, lanes_room, tariff_room, lanes_written, tariff_written}
use Rattle.sites.proofs.writing.write_rows.Goals as goal

pub loop-record-init : goal.loop-record-init
loop-record-init c =
    let P : List ℕ → Type 0 = λ rest. Passed c.args.bytes.now rest 0 0 c.args.lanes.now c.args.lanes.now c.args.tariff.now c.args.tariff.now in
    let rest = ap (λ r. r.rest.now) c.into_iter-record-iterator.ensures.into_iter_gives in
    record { same_lanes = refl; same_tariff = refl; passed = subst P (sym rest) (none_passed c.args.bytes.now c.args.lanes.now c.args.tariff.now c.requires) }

pub write_record-requires-clause-lanes : goal.write_record-requires-clause-lanes
write_record-requires-clause-lanes c = lanes_room _ _ _ _ _ _ _ _ c.loop-record.invariant.passed c.in-Some.«record» c.next.new.self.rest.now c.in-Some.ensures.steps

pub write_record-requires-clause-tariff : goal.write_record-requires-clause-tariff
write_record-requires-clause-tariff c = tariff_room _ _ _ _ _ _ _ _ c.loop-record.invariant.passed c.in-Some.«record» c.next.new.self.rest.now c.in-Some.ensures.steps

pub loop-record-preserved : goal.loop-record-preserved
loop-record-preserved c =
    let written = c.write_record.ensures in
    record {
      same_lanes = written.same_lanes ∙ c.loop-record.invariant.same_lanes;
      same_tariff = written.same_tariff ∙ c.loop-record.invariant.same_tariff;
      passed = next_passed _ _ _ _ _ _ _ _ c.loop-record.invariant.passed c.in-Some.«record» c.next.new.self.rest.now c.in-Some.ensures.steps
          _ _ _ _ written.lanes.0 written.lanes.1 written.tariff.0 written.tariff.1;
    }

pub returns-clause-lanes : goal.returns-clause-lanes
returns-clause-lanes c rs fits e =
    ◌∙◌ {b = c.loop-record.lanes.table.now} (search rules) (lanes_written _ _ _ _ _ _ _ _ c.loop-record.invariant.passed c.in-None.ensures.steps.0 rs fits e)

pub returns-clause-tariff : goal.returns-clause-tariff
returns-clause-tariff c rs fits e =
    ◌∙◌ {b = c.loop-record.tariff.table.now} (search rules) (tariff_written _ _ _ _ _ _ _ _ c.loop-record.invariant.passed c.in-None.ensures.steps.0 rs fits e)
