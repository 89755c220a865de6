use mathlib.Core.Path.{refl, ◌∙◌}
use native.Mathlib.Omega.{arith}
use Prim.Native.Nat.{◌+◌, ◌-◌}
use Rattle.sizes.proofs.SizeLaws.{not_sizes_outside}
use Rattle.linear.proofs.KeptLaws.{kept_front}
use Rattle.lists.proofs.SliceLaws.{length_part}
use Rattle.coding.proofs.EncodeLaws.{encodable, part_fits, record_part, place_filled_in_parts}
use Rattle.coding.proofs.encoding.fill_place.Goals as goal

pub sizes_in-z-requires : goal.sizes_in-z-requires
sizes_in-z-requires c = omega (arith, (encodable _ _ _ _ _ _ _ refl c.requires).fits)

pub overflow_add-k : goal.overflow_add-k
overflow_add-k c = omega (arith, (encodable _ _ _ _ _ _ _ c.sizes_in-z.ensures c.requires).number)

pub overflow_mul-k : goal.overflow_mul-k
overflow_mul-k c = omega (arith, (encodable _ _ _ _ _ _ _ c.sizes_in-z.ensures c.requires).number)

pub id_in-id-requires : goal.id_in-id-requires
id_in-id-requires c = omega (arith, (encodable _ _ _ _ _ _ _ c.sizes_in-z.ensures c.requires).fits)

pub row_from-kept-requires : goal.row_from-kept-requires
row_from-kept-requires c =
    let ok = encodable _ _ _ _ _ _ _ c.sizes_in-z.ensures c.requires in
    omega (arith, ok.row_length, ok.sizes.m_high)

pub set_marks-requires : goal.set_marks-requires
set_marks-requires c =
    let ok = encodable _ _ _ _ _ _ _ c.sizes_in-z.ensures c.requires in
    (omega (arith, ok.number), omega (arith, ok.fits))

pub record_start-start-requires : goal.record_start-start-requires
record_start-start-requires c =
    let ok = encodable _ _ _ _ _ _ _ c.sizes_in-z.ensures c.requires in
    (not_sizes_outside _ ok.sizes, ok.number)

pub record_length-requires : goal.record_length-requires
record_length-requires c = not_sizes_outside _ (encodable _ _ _ _ _ _ _ c.sizes_in-z.ensures c.requires).sizes

pub overflow_add-block-2 : goal.overflow_add-block-2
overflow_add-block-2 c =
    let ok = encodable _ _ _ _ _ _ _ c.sizes_in-z.ensures c.requires in
    omega (arith, ok.fits, c.record_start-start.ensures)

pub overflow_add-block : goal.overflow_add-block
overflow_add-block c = omega (arith, (encodable _ _ _ _ _ _ _ c.sizes_in-z.ensures c.requires).sizes)

pub slice_bounds-block-end : goal.slice_bounds-block-end
slice_bounds-block-end c =
    let ok = encodable _ _ _ _ _ _ _ c.sizes_in-z.ensures c.requires in
    omega (arith, ok.fits, c.record_start-start.ensures)

pub overflow_add-record : goal.overflow_add-record
overflow_add-record c =
    let ok = encodable _ _ _ _ _ _ _ c.sizes_in-z.ensures c.requires in
    omega (arith, part_fits _ _ _ _ _ _ _ _ ok c.record_start-start.ensures c.record_length.ensures.0)

pub slice_bounds-record-end : goal.slice_bounds-record-end
slice_bounds-record-end c =
    let ok = encodable _ _ _ _ _ _ _ c.sizes_in-z.ensures c.requires in
    omega (arith, part_fits _ _ _ _ _ _ _ _ ok c.record_start-start.ensures c.record_length.ensures.0)

pub write_block-requires : goal.write_block-requires
write_block-requires c =
    let ok = encodable _ _ _ _ _ _ _ c.sizes_in-z.ensures c.requires in
    let start = c.record_start-start.result in
    let z = c.sizes_in-z.result in
    let part = length_part start (start + (z.n + z.m) - start) c.set_marks.new.s (omega (arith, ok.fits, c.record_start-start.ensures)) in
    (not_sizes_outside _ ok.sizes, ok.file_length_lem, ok.padding_length_lem, part ∙ omega arith)

pub tag_record-requires : goal.tag_record-requires
tag_record-requires c =
    let ok = encodable _ _ _ _ _ _ _ c.sizes_in-z.ensures c.requires in
    let fits = part_fits _ _ _ _ _ _ _ _ ok c.record_start-start.ensures c.record_length.ensures.0 in
    (not_sizes_outside _ ok.sizes, record_part _ _ _ _ (omega (arith, fits)) c.record_length.ensures.0)

pub returns : goal.returns
returns c =
    let ok = encodable _ _ _ _ _ _ _ c.sizes_in-z.ensures c.requires in
    let block = rw (kept_front c.args.row.now _ ok.row_length ok.sizes.m_high c.row_from-kept.ensures) at c.write_block.ensures in
    place_filled_in_parts _ _ _ _ _ _ _ _ ok c.record_start-start.ensures c.record_length.ensures.0
    c.set_marks.ensures (omega arith) (omega arith) block c.sizes_in-z.ensures c.id_in-id.ensures c.tag_record.ensures
