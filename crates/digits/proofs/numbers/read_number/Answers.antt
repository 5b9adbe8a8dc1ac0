use Rattle.std.proofs.Common.{◌≡◌, ℕ, ◌+◌, ◌-◌, ◌*◌, ◌^◌, ◌<◌, List, length, get_or, take, decimal, sym, refl, ap, ◌∙◌, arith}
use Rattle.std.specs.Str.Parse.{digits_value}
use Rattle.std.specs.Int.{IsInRange}
use Rattle.std.proofs.ByRecursion.{All-get_or}
use Rattle.std.proofs.lemmas.List.{take_all}
use Rattle.digits.specs.Numbers.{BaseTen}
use Rattle.digits.proofs.NumberReads.{value_next, front_value_le, decimal_of_value}
use Rattle.digits.proofs.numbers.read_number.Goals as goal

next_value : (bs : List ℕ) (i v : ℕ) → BaseTen bs → i < length bs → v ≡ digits_value 10 (take i bs) → v * 10 + (get_or bs i 0 - 48) ≡ digits_value 10 (take (i + 1) bs)
next_value bs i v ten h e = ap (λ n. n * 10 + (get_or bs i 0 - 48)) e ∙ sym (value_next bs i h ten.0)

pub overflow_sub-next : goal.overflow_sub-next
overflow_sub-next c = (All-get_or (IsInRange 48 57) c.args.bytes.now c.loop-b.b-index 0 c.loop-b-test.true (c.if-not-base_ten.ensures.0 refl).0).0

pub returns-then-next-most : goal.returns-then-next-most
returns-then-next-most c =
    let bs = c.args.bytes.now in
    let i = c.loop-b.b-index in
    let ten : BaseTen bs = c.if-not-base_ten.ensures.0 refl in
    (ten, omega (arith, next_value bs i c.loop-b.value ten c.loop-b-test.true c.loop-b.invariant.0, front_value_le bs (i + 1)))

pub loop-b-preserved : goal.loop-b-preserved
loop-b-preserved c =
    let ten : BaseTen c.args.bytes.now = c.if-not-base_ten.ensures.0 refl in
    (next_value c.args.bytes.now c.loop-b.b-index c.loop-b.value ten c.loop-b-test.true c.loop-b.invariant.0, omega arith)

pub returns : goal.returns
returns c =
    let bs = c.args.bytes.now in
    let ten : BaseTen bs = c.if-not-base_ten.ensures.0 refl in
    let e : c.loop-b.value ≡ digits_value 10 bs = c.loop-b.invariant.0 ∙ ap (digits_value 10) (take_all c.loop-b.b-index bs (omega arith)) in
    let small : digits_value 10 bs < 2 ^ 64 = omega arith in
    (decimal_of_value bs ten small ∙ ap decimal (sym e), c.loop-b.invariant.1)
