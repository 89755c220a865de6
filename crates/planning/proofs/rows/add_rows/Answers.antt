use Prim.Native.Nat.{◌+◌}
use mathlib.Core.Path.{◌≡◌, ◌∙◌}
use native.Mathlib.Omega.{arith}
use lib.ListN.{length}
use Rattle.lists.proofs.PartLaws.{length_part}
use Rattle.sizes.proofs.SizeLaws.{ranged}
use Rattle.sizes.proofs.PlaceLaws.{count_low}
use Rattle.vector.proofs.AddedLaws.{mixed_none}
use Rattle.planning.proofs.RowLaws.{row_fits, row_low, row_added}
use Rattle.planning.proofs.rows.add_rows.Goals as goal

pub loop-l-init : goal.loop-l-init
loop-l-init c = mixed_none _ _ _ _ _

pub overflow_add-first : goal.overflow_add-first
overflow_add-first c = omega (arith, c.requires.0, count_low _ (ranged _ c.args.records.ranges))

pub record_start-requires : goal.record_start-requires
record_start-requires c =
    (c.args.records.ranges, omega (arith, c.requires.0, count_low _ (ranged _ c.args.records.ranges)))

pub overflow_add-start : goal.overflow_add-start
overflow_add-start c =
    let R = ranged _ c.args.records.ranges in
    omega (arith, row_low c.args.records.z _ R (omega (arith, c.requires.0, count_low _ R)) c.record_start.ensures)

pub overflow_add-start-in-loop-l : goal.overflow_add-start-in-loop-l
overflow_add-start-in-loop-l c =
    let R = ranged _ c.args.records.ranges in
    omega (arith, R.m_high, row_low c.args.records.z _ R (omega (arith, c.requires.0, count_low _ R)) c.record_start.ensures)

pub slice_bounds-add_multiple-end : goal.slice_bounds-add_multiple-end
slice_bounds-add_multiple-end c = row_fits c.args.records.z _ (omega (arith, c.requires.0)) c.record_start.ensures c.args.records.long

pub add_multiple-requires : goal.add_multiple-requires
add_multiple-requires c =
    let start = c.record_start.result + c.args.records.z.n in
    length_part start (start + c.args.records.z.m) c.args.records.bytes.now (row_fits c.args.records.z _ (omega (arith, c.requires.0)) c.record_start.ensures c.args.records.long)
    ∙ omega (arith, c.requires.1)

pub loop-l-preserved : goal.loop-l-preserved
loop-l-preserved c =
    let a = c.args in
    row_added a.records.z a.records.bytes.now a.gammas.now a.out.now a.first c.loop-l.l c.requires.1
    c.record_start.ensures c.loop-l.invariant c.add_multiple.ensures

pub returns : goal.returns
returns c =
    let all : c.loop-l.l ≡ length c.args.gammas.now = omega arith in
    rw all at c.loop-l.invariant
