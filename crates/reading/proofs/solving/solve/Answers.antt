use borrow.Author.Rules.{rules}
use Prim.Native.Nat.{◌<◌, ◌+◌, ◌-◌, ◌*◌}
use mathlib.Core.Path.{◌≡◌, refl, ap, ◌∙◌}
use lib.ListN.{length}
use native.Mathlib.Omega.{arith}
use Rattle.lists.proofs.PutLaws.{length_put, grid_none}
use Rattle.lists.proofs.PartLaws.{length_part}
use Rattle.lists.proofs.SliceLaws.{put_filled}
use Rattle.sizes.proofs.SizeLaws.{ranged}
use Rattle.vector.proofs.AddedLaws.{row_made}
use Rattle.vector.proofs.SliceLaws.{added_in_row}
use Rattle.reading.proofs.SolvingLaws.{row_fits, row_low}
use Rattle.reading.proofs.solving.solve.Goals as goal

pub overflow_sub-len : goal.overflow_sub-len
overflow_sub-len c = omega (arith, ranged _ c.args.records.ranges)

pub loop-i-init : goal.loop-i-init
loop-i-init c = (omega arith, refl, grid_none _ _ _ _)

pub bounds-combinations-i : goal.bounds-combinations-i
bounds-combinations-i c = omega (arith, ranged _ c.args.records.ranges)

pub offset_bounds-combinations-i : goal.offset_bounds-combinations-i
offset_bounds-combinations-i c = omega (arith, ranged _ c.args.records.ranges)

pub overflow_mul-from : goal.overflow_mul-from
overflow_mul-from c =
    omega (arith, row_low c.args.records.z c.args.records.ranges c.loop-i.i c.loop-i-test.true)

pub overflow_add-from : goal.overflow_add-from
overflow_add-from c =
    omega (arith, row_low c.args.records.z c.args.records.ranges c.loop-i.i c.loop-i-test.true, ranged _ c.args.records.ranges)

pub slice_bounds-fill-end : goal.slice_bounds-fill-end
slice_bounds-fill-end c =
    omega (arith, row_fits c.loop-i.i c.args.records.z.m (c.args.records.z.n - 2) c.loop-i-test.true, c.requires.1, c.loop-i.invariant.1)

pub add_places-requires : goal.add_places-requires
add_places-requires c =
    let len = c.args.records.z.n - 2 in
    let from = c.loop-i.i * len in
    let fits = row_fits c.loop-i.i c.args.records.z.m len c.loop-i-test.true in
    let cleared = put_filled len from 0 c.loop-i.file (omega arith) (omega (arith, fits, c.requires.1, c.loop-i.invariant.1)) (c.fill.ensures.after (λ y e. e)) in
    let long = ap length cleared ∙ length_put len from (λ e. 0) c.loop-i.file in
    (c.requires.0, length_part from (from + len) _ (omega (arith, long, fits, c.requires.1, c.loop-i.invariant.1)) ∙ omega arith)

pub loop-i-preserved : goal.loop-i-preserved
loop-i-preserved c =
    let len = c.args.records.z.n - 2 in
    let from = c.loop-i.i * len in
    let low : c.loop-i.i < c.args.records.z.m = c.loop-i-test.true in
    let fits = row_fits c.loop-i.i c.args.records.z.m len low in
    let cleared = put_filled len from 0 c.loop-i.file (omega arith) (omega (arith, fits, c.requires.1, c.loop-i.invariant.1)) (c.fill.ensures.after (λ y e. e)) in
    let long = ap length cleared ∙ length_put len from (λ e. 0) c.loop-i.file in (
      omega (arith, low),
      search rules,
      row_made c.loop-i.i len 0 _ _ c.args.file.now (omega (arith, fits, c.requires.1)) c.loop-i.invariant.2 (omega arith) cleared
          (added_in_row len from _ _ (omega (arith, long, fits, c.requires.1, c.loop-i.invariant.1)) c.add_places.ensures) (λ e h. refl),
    )

pub returns : goal.returns
returns c =
    let i : c.loop-i.i ≡ c.args.records.z.m = omega arith in
    rw i at c.loop-i.invariant.2
