use mathlib.Core.Path.{sym}
use native.Mathlib.Omega.{arith}
use Rattle.sizes.proofs.SizeLaws.{ranged}
use Rattle.sizes.proofs.PlaceLaws.{count_low}
use Rattle.archive.proofs.BadArchiveLaws.{too_short, header_bad, sizes_good, length_bad, only_marks}
use Rattle.archive.proofs.layout.bad_archive.Goals as goal

pub returns-then-s-lt-HEADER_LENGTH : goal.returns-then-s-lt-HEADER_LENGTH
returns-then-s-lt-HEADER_LENGTH c = sym (too_short _ c.if-s-lt-HEADER_LENGTH.true)

pub returns-then-layout_outside-sizes_outside : goal.returns-then-layout_outside-sizes_outside
returns-then-layout_outside-sizes_outside c =
    sym
    (header_bad _ c.sizes_in-z.ensures c.read_field-layout.ensures
    c.read_field-field.ensures c.read_field-spare.ensures
    c.layout_outside.ensures c.sizes_outside.ensures c.tag_field.ensures
    c.if-layout_outside-sizes_outside.true)

pub archive_length-requires : goal.archive_length-requires
archive_length-requires c =
    sizes_good _ c.sizes_in-z.ensures c.read_field-layout.ensures
    c.read_field-field.ensures c.read_field-spare.ensures
    c.layout_outside.ensures c.sizes_outside.ensures c.tag_field.ensures
    c.if-layout_outside-sizes_outside.false

pub returns-then-s-archive_length : goal.returns-then-s-archive_length
returns-then-s-archive_length c =
    sym
    (length_bad _ c.sizes_in-z.ensures c.read_field-layout.ensures
    c.read_field-field.ensures c.read_field-spare.ensures
    c.layout_outside.ensures c.sizes_outside.ensures c.tag_field.ensures
    c.archive_length.ensures c.if-s-archive_length.true)

pub overflow_mul-z : goal.overflow_mul-z
overflow_mul-z c =
    let good = sizes_good _ c.sizes_in-z.ensures c.read_field-layout.ensures
    c.read_field-field.ensures c.read_field-spare.ensures
    c.layout_outside.ensures c.sizes_outside.ensures c.tag_field.ensures
    c.if-layout_outside-sizes_outside.false in
    omega (arith, count_low _ (ranged _ good))

pub returns : goal.returns
returns c =
    only_marks _ c.sizes_in-z.ensures c.read_field-layout.ensures
    c.read_field-field.ensures c.read_field-spare.ensures
    c.layout_outside.ensures c.sizes_outside.ensures c.tag_field.ensures
    c.if-layout_outside-sizes_outside.false c.archive_length.ensures c.if-s-archive_length.false c.any_spare_mark.ensures
