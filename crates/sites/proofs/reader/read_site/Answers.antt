use Rattle.std.proofs.Common.{◌≡◌, ◌++◌, length, take, drop, sym, ap, ◌∙◌, arith}
use Rattle.std.proofs.lemmas.List.{length-take-le}
use Rattle.sites.specs.Sites.{said}
use Rattle.sites.specs.Writing.{filled}
use Rattle.sites.proofs.RoomsKept.{all_fitting, carts_within, writable}
use Rattle.sites.proofs.reader.read_site.Goals as goal

pub write_rows-requires : goal.write_rows-requires
write_rows-requires c =
    let read = c.in_ok-reading.ensures in
    writable _ c.args.bytes.now read.0 read.1

pub slice_bounds-copy_from_slice-end : goal.slice_bounds-copy_from_slice-end
slice_bounds-copy_from_slice-end c =
    let read = c.in_ok-reading.ensures in
    omega (arith, c.from-count.ensures, c.carts.ensures, read.2.holds.entered, carts_within _ c.args.bytes.now read.0 read.1)

pub slice_bounds-copy_from_slice-end-2 : goal.slice_bounds-copy_from_slice-end-2
slice_bounds-copy_from_slice-end-2 c =
    let read = c.in_ok-reading.ensures in
    sym (length-take-le c.from-count.result c.args.carts.now (omega (arith, c.from-count.ensures, c.carts.ensures, read.2.holds.entered, carts_within _ c.args.bytes.now read.0 read.1)))

pub copy_from_slice-requires : goal.copy_from_slice-requires
copy_from_slice-requires c =
    let read = c.in_ok-reading.ensures in
    let few = c.in_ok-reading.reading.site.draft.few_carts in
    length-take-le c.from-count.result c.args.carts.now (omega (arith, c.from-count.ensures, c.carts.ensures, read.2.holds.entered, carts_within _ c.args.bytes.now read.0 read.1))
    ∙ sym (length-take-le c.from-count.result c.in_ok-reading.reading.carts (omega (arith, c.from-count.ensures, c.carts.ensures, read.2.holds.rows)))

pub returns : goal.returns
returns c =
    let read = c.in_ok-reading.ensures in
    let rs = read.0 in
    let h = read.2.holds in
    let n = c.from-count.result in
    let fits = all_fitting _ rs read.1.stand in
    let lanes = c.write_rows.ensures.lanes rs fits read.1.text in
    let tariff = c.write_rows.ensures.tariff rs fits read.1.text in
    let count : n ≡ length (said rs).carts = c.from-count.ensures ∙ c.carts.ensures ∙ h.entered in
    let carts : c.copy_from_slice.new.self ++ drop n c.args.carts.now ≡ filled (said rs).carts c.args.carts.now =
    ap (λ t. t ++ drop n c.args.carts.now) c.copy_from_slice.ensures.after
    ∙ ap (λ m. take m c.in_ok-reading.reading.carts ++ drop m c.args.carts.now) count
    ∙ ap (λ t. t ++ drop (length (said rs).carts) c.args.carts.now) h.carts in
    record {
      short = c.if-bytes-gt-MOST_BYTES.false;
      records = rs;
      accepted = read.1;
      written = λ i. record { lanes = lanes i; tariff = tariff i; carts = carts i };
      holds = record { horizon = h.horizon; carts = h.entered; floor = h.floor; lanes = h.lanes; tariff = h.tariff };
    }
