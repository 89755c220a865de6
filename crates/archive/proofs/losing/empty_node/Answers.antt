use Rattle.lists.proofs.SliceLaws.{put_filled}
use mathlib.Core.Path.{refl}
use native.Mathlib.Omega.{arith}
use native.Mathlib.Nat.{mul-le-mul}
use Rattle.sizes.specs.Lengths.{places_most, record_most}
use Rattle.archive.proofs.LoseLaws.{lose_ranged, lose_sized, places_low, records_fit, long_enough, node_emptied}
use Rattle.archive.proofs.losing.empty_node.Goals as goal

pub sizes_in-z-requires : goal.sizes_in-z-requires
sizes_in-z-requires c = omega (arith, long_enough _ _ c.requires refl)

pub overflow_mul-k : goal.overflow_mul-k
overflow_mul-k c = omega (arith, places_low _ _ c.requires c.sizes_in-z.ensures)

pub set_marks-requires : goal.set_marks-requires
set_marks-requires c =
    let done = c.requires in
    (places_low _ _ done c.sizes_in-z.ensures, long_enough _ _ done refl)

pub record_start-start-requires : goal.record_start-start-requires
record_start-start-requires c =
    let done = c.requires in
    (lose_sized _ _ done c.sizes_in-z.ensures, omega (arith, places_low _ _ done c.sizes_in-z.ensures, (lose_ranged _ _ done c.sizes_in-z.ensures).places_low))

pub record_length-requires : goal.record_length-requires
record_length-requires c =
    lose_sized _ _ c.requires c.sizes_in-z.ensures

pub overflow_mul-z : goal.overflow_mul-z
overflow_mul-z c =
    let high = (lose_ranged _ _ c.requires c.sizes_in-z.ensures).places_high in
    omega (arith, mul-le-mul {n₂ = places_most} {m₂ = record_most} high c.record_length.ensures.1)

pub overflow_add-start : goal.overflow_add-start
overflow_add-start c =
    let fits = records_fit _ _ c.requires c.sizes_in-z.ensures _ c.set_marks.ensures c.record_start-start.ensures c.record_length.ensures.0 in
    omega (arith, fits)

pub slice_bounds-fill-end : goal.slice_bounds-fill-end
slice_bounds-fill-end c =
    records_fit _ _ c.requires c.sizes_in-z.ensures _ c.set_marks.ensures c.record_start-start.ensures c.record_length.ensures.0

pub returns : goal.returns
returns c =
    node_emptied _ _ c.requires c.sizes_in-z.ensures c.set_marks.ensures c.record_start-start.ensures
    c.record_length.ensures.0 (put_filled _ _ 0 _ (omega arith)
    (records_fit _ _ c.requires c.sizes_in-z.ensures _ c.set_marks.ensures c.record_start-start.ensures c.record_length.ensures.0) (c.fill.ensures.after (λ y e. e)))
