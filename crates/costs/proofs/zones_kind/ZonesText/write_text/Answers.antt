use Rattle.std.proofs.Common.{◌≡◌, ◌≤◌, length, decimal, ap, ◌∙◌, arith, length-take, length-drop, length-set}
use lib.Count.{ones}
use Rattle.hex.specs.Hex.{encode_lower}
use Rattle.costs.specs.Texts.{hex_digits}
use Rattle.costs.specs.ZoneSets.{zones_text}
use Rattle.costs.proofs.Puts.{length_zones, hex_of_bytes, put_parts}
use Rattle.costs.proofs.zones_kind.ZonesText.write_text.Goals as goal

pub unwrap-requires : goal.unwrap-requires
unwrap-requires c =
    let long = length_zones c.args.self.now in
    let stroke = rw (c.unwrap-stroke.ensures, c.into.ensures) at c.write_decimal.ensures in
    c.encode_to_slice.ensures.fits.1 (simp (length-take, length-drop, length-set) (omega (arith, stroke.0)))

pub returns : goal.returns
returns c =
    let z = c.args.self.now in
    let fits = c.in_ok-len.ensures in
    let stroke = rw (c.unwrap-stroke.ensures, c.into.ensures) at c.write_decimal.ensures in
    let digits : c.encode_to_slice.new.output ≡ hex_digits 16 z.bits = (rw c.unwrap.ensures at c.encode_to_slice.ensures.written) ∙ ap encode_lower c.to_be_bytes.ensures ∙ hex_of_bytes 8 z.bits in
    let room : length (zones_text z) ≤ length c.args.out.now = omega arith in
    (fits.0, room, put_parts (decimal (ones z.bits)) (hex_digits 16 z.bits) c.args.out.now c.write_decimal.new.out c.encode_to_slice.new.output c.unwrap-stroke.result 47 c.in_ok-len.len stroke.0 fits.0 fits.1 stroke.2 digits)
