use mathlib.Core.Path.{◌≡◌, ◌∙◌}
use Prim.Native.Nat.{◌+◌, ◌-◌}
use native.Mathlib.Omega.{arith}
use lib.ListN.{length}
use Rattle.lists.proofs.PartLaws.{length_part}
use Rattle.sizes.proofs.SizeLaws.{ranged}
use Rattle.vector.proofs.AddedLaws.{mixed_none}
use Rattle.vector.proofs.SliceLaws.{added_part}
use Rattle.sizes.proofs.PlaceLaws.{count_low}
use Rattle.reading.proofs.SolvingLaws.{data_fits, place_added}
use Rattle.reading.proofs.solving.add_places.Goals as goal

pub overflow_sub-len : goal.overflow_sub-len
overflow_sub-len c = omega (arith, ranged _ c.args.records.ranges)

pub loop-t-init : goal.loop-t-init
loop-t-init c = mixed_none _ _ _ _ _

pub bounds-places-t : goal.bounds-places-t
bounds-places-t c = omega (arith, ranged _ c.args.records.ranges)

pub record_start-start-requires : goal.record_start-start-requires
record_start-start-requires c =
    (c.args.records.ranges, omega (arith, c.from.ensures, c.requires.0 _ c.loop-t-test.true, count_low _ (ranged _ c.args.records.ranges)))

pub bounds-coefficients-t : goal.bounds-coefficients-t
bounds-coefficients-t c = omega (arith, ranged _ c.args.records.ranges)

pub slice_bounds-add_multiple-end : goal.slice_bounds-add_multiple-end
slice_bounds-add_multiple-end c = data_fits _ (c.requires.0 _ c.loop-t-test.true) c.from.ensures c.record_start-start.ensures c.args.records.long

pub add_multiple-requires : goal.add_multiple-requires
add_multiple-requires c =
    let start = c.record_start-start.result in
    length_part start (start + (c.args.records.z.n - 2)) c.args.records.bytes.now (data_fits _ (c.requires.0 _ c.loop-t-test.true) c.from.ensures c.record_start-start.ensures c.args.records.long)
    ∙ omega (arith, c.loop-t.auto.block, c.requires.1)

pub loop-t-preserved : goal.loop-t-preserved
loop-t-preserved c =
    let len = c.args.records.z.n - 2 in
    let start = c.record_start-start.result in
    let long : length c.loop-t.block ≡ len = omega (arith, c.loop-t.auto.block, c.requires.1) in
    place_added _ _ c.args.places c.args.coefficients _ _ _ _ (omega (arith, c.requires.1)) c.from.ensures
    c.record_start-start.ensures c.loop-t.invariant
    ((rw long at c.add_multiple.ensures) ∙ added_part start (start + len) c.args.records.bytes.now _ len 0 c.loop-t.block (omega arith))

pub returns : goal.returns
returns c =
    let t : c.loop-t.t ≡ c.args.records.z.m = omega arith in
    rw t at c.loop-t.invariant
