use Rattle.std.proofs.Common.{◌≡◌, ℕ, ◌<◌, List, Some, None, Err, Option, length, get_or, sym, subst, arith}
use Rattle.std.proofs.lemmas.Result.{err_from_is_err_and}
use Rattle.std.specs.Option.{ok_or}
use Rattle.digits.specs.declared.numbers.ReadFault.{ReadFault}
use Rattle.digits.specs.declared.numbers.ReadFault.TheVariants.{Malformed}
use Rattle.prices.specs.Lines.{LineRead}
use Rattle.prices.specs.ZoneLines.{HexRead, zones_line, none_large}
use Rattle.prices.specs.ZoneReads.{no_hex_digits, hex_digits_more, hex_bound, hex_small, hex_all, other_length, other_byte}
use Rattle.prices.proofs.zone_lines.ZonesPriced.read_line.Goals as goal

-- where a byte is no digit, the line is malformed
not_digits : (bs : List ℕ) (i : ℕ) (digit : Option ℕ) (fault : ReadFault) → i < length bs → HexRead (get_or bs i 0) digit → Err fault ≡ ok_or digit Malformed → LineRead zones_line none_large bs (Err fault)
not_digits bs i None fault h read e =
    let is : fault ≡ Malformed = cc in
    subst (λ (f : ReadFault). LineRead zones_line none_large bs (Err f)) (sym is) (other_byte bs i h read, λ never. never)
not_digits bs i (Some d) fault h read e = let z : ◌≡◌ {A = ℕ} 0 1 = cc in absurd (omega arith)

pub returns-then-bytes-ne16 : goal.returns-then-bytes-ne16
returns-then-bytes-ne16 c = (other_length c.args.bytes.now c.if-bytes-ne16.true, λ never. never)

pub loop-b-init : goal.loop-b-init
loop-b-init c = (no_hex_digits 0, omega arith)

pub returns-in_err-digit : goal.returns-in_err-digit
returns-in_err-digit c =
    let p = err_from_is_err_and c.from_residual.result c.from_residual.ensures.1 in
    rw (p.1, p.2) (not_digits c.args.bytes.now c.loop-b.b-index c.hex_value.result c.in_err-digit.field-0.0 c.loop-b-test.true c.hex_value.ensures c.in_err-digit.ensures.value)

digit_read : (c : goal.In_ok-digit) → HexRead (get_or c.args.bytes.now c.loop-b.b-index 0) (Some c.in_ok-digit.digit)
digit_read c = subst (HexRead (get_or c.args.bytes.now c.loop-b.b-index 0)) c.in_ok-digit.ensures.ok_part c.hex_value.ensures

pub overflow_mul-bits : goal.overflow_mul-bits
overflow_mul-bits c =
    omega (arith, hex_small c.loop-b.b-index c.loop-b.bits c.in_ok-digit.digit (omega arith) c.loop-b.invariant.1 (digit_read c).0)

pub overflow_add-bits : goal.overflow_add-bits
overflow_add-bits c =
    omega (arith, hex_small c.loop-b.b-index c.loop-b.bits c.in_ok-digit.digit (omega arith) c.loop-b.invariant.1 (digit_read c).0)

pub loop-b-preserved : goal.loop-b-preserved
loop-b-preserved c =
    let digit = digit_read c in
    (hex_digits_more c.args.bytes.now c.loop-b.b-index c.loop-b.bits c.in_ok-digit.digit c.loop-b-test.true c.loop-b.invariant.0 digit.0 digit.1, hex_bound c.loop-b.b-index c.loop-b.bits c.in_ok-digit.digit c.loop-b.invariant.1 digit.0)

pub returns : goal.returns
returns c = hex_all c.args.bytes.now c.loop-b.b-index c.loop-b.bits c.if-bytes-ne16.false (omega arith) c.loop-b.invariant.0
