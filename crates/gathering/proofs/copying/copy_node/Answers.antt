use Rattle.lists.proofs.SliceLaws.{put_copied}
use mathlib.Core.Path.{refl}
use native.Mathlib.Omega.{arith}
use native.Mathlib.Nat.{mul-le-mul}
use Rattle.sizes.specs.Lengths.{places_most, record_most}
use Rattle.gathering.proofs.GatherLaws.{gather_ranged, gather_sized, places_low, long_enough, share_long, share_fits, records_fit, node_gathered}
use Rattle.gathering.proofs.copying.copy_node.Goals as goal

pub sizes_in-z-requires : goal.sizes_in-z-requires
sizes_in-z-requires c = omega (arith, long_enough _ _ _ c.requires refl)

pub overflow_mul-k : goal.overflow_mul-k
overflow_mul-k c = omega (arith, places_low _ _ _ c.requires c.sizes_in-z.ensures)

pub copy_marks-requires : goal.copy_marks-requires
copy_marks-requires c =
    let done = c.requires in
    (places_low _ _ _ done c.sizes_in-z.ensures, long_enough _ _ _ done refl, share_long _ _ _ done refl)

pub record_start-start-requires : goal.record_start-start-requires
record_start-start-requires c =
    let done = c.requires in
    let read = c.sizes_in-z.ensures in
    (gather_sized _ _ _ done read, omega (arith, places_low _ _ _ done read, (gather_ranged _ _ _ done read).places_low))

pub record_length-requires : goal.record_length-requires
record_length-requires c =
    gather_sized _ _ _ c.requires c.sizes_in-z.ensures

pub overflow_mul-len : goal.overflow_mul-len
overflow_mul-len c =
    let high = (gather_ranged _ _ _ c.requires c.sizes_in-z.ensures).places_high in
    omega (arith, mul-le-mul {n₂ = places_most} {m₂ = record_most} high c.record_length.ensures.1)

pub overflow_add-start : goal.overflow_add-start
overflow_add-start c =
    omega (arith, share_fits _ _ _ c.requires c.sizes_in-z.ensures c.record_start-start.ensures c.record_length.ensures.0)

pub slice_bounds-copy-end : goal.slice_bounds-copy-end
slice_bounds-copy-end c =
    omega (arith, share_fits _ _ _ c.requires c.sizes_in-z.ensures c.record_start-start.ensures c.record_length.ensures.0)

pub slice_bounds-copy-end-2 : goal.slice_bounds-copy-end-2
slice_bounds-copy-end-2 c =
    omega (arith, records_fit _ _ _ c.requires c.sizes_in-z.ensures c.record_start-start.ensures c.record_length.ensures.0 _ c.copy_marks.ensures)

pub returns : goal.returns
returns c =
    let done = c.requires in
    let read = c.sizes_in-z.ensures in
    let starts = c.record_start-start.ensures in
    let len = c.record_length.ensures.0 in
    node_gathered _ _ _ done read starts len c.copy_marks.ensures
    (put_copied _ _ c.record_start-start.result _ _ (omega arith) (omega arith) (records_fit _ _ _ done read starts len _ c.copy_marks.ensures)
    (share_fits _ _ _ done read starts len) c.copy.ensures)
