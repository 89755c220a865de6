use Prim.Native.Nat.{◌+◌, ◌-◌, ◌*◌}
use borrow.Author.Rules.{rules}
use mathlib.Core.Path.{refl, ◌∙◌}
use native.Mathlib.Nat.{mul-le-mul_right}
use native.Mathlib.Omega.{arith}
use Rattle.lists.proofs.PutLaws.{grid_none}
use Rattle.lists.proofs.SliceLaws.{length_part, put_written}
use Rattle.archive.proofs.GoodArchiveLaws.{good_length}
use Rattle.archive.proofs.CallLaws.{read_sizes}
use Rattle.gathering.proofs.RowsLaws.{rows_low, rows_good, rows_there, row_from, rows_more, rows_written}
use Rattle.gathering.proofs.telling.write_rows.Goals as goal

pub sizes_in-z-requires : goal.sizes_in-z-requires
sizes_in-z-requires c = omega (arith, good_length _ (rows_good _ _ _ c.requires refl))

pub loop-place-init : goal.loop-place-init
loop-place-init c = (omega arith, refl, grid_none _ _ _ _)

pub overflow_mul-from : goal.overflow_mul-from
overflow_mul-from c =
    let done = c.requires in
    let R = read_sizes _ c.sizes_in-z.ensures (rows_good _ _ _ done refl) in
    omega (arith, row_from _ _ _ done c.sizes_in-z.ensures _ c.loop-place-test.true, rows_low _ R, mul-le-mul_right c.sizes_in-z.result.m c.loop-place-test.true)

pub overflow_add-from : goal.overflow_add-from
overflow_add-from c =
    let done = c.requires in
    let R = read_sizes _ c.sizes_in-z.ensures (rows_good _ _ _ done refl) in
    omega (arith, rows_low _ R, mul-le-mul_right c.sizes_in-z.result.m c.loop-place-test.true)

pub slice_bounds-write_row-end : goal.slice_bounds-write_row-end
slice_bounds-write_row-end c =
    omega (arith, c.loop-place.invariant.1, row_from _ _ _ c.requires c.sizes_in-z.ensures _ c.loop-place-test.true)

pub write_row-requires : goal.write_row-requires
write_row-requires c =
    let done = c.requires in
    let read = c.sizes_in-z.ensures in
    let turn = c.loop-place-test.true in
    let fits = row_from _ _ _ done read _ turn in
    let m = c.sizes_in-z.result.m in
    let part = length_part (c.loop-place.place * m) (c.loop-place.place * m + m - c.loop-place.place * m) c.loop-place.rows (omega (arith, c.loop-place.invariant.1)) in
    (rows_good _ _ _ done refl, rows_there _ _ _ done refl, rw (← read) turn, rw (← read) (part ∙ omega arith))

pub loop-place-preserved : goal.loop-place-preserved
loop-place-preserved c =
    let done = c.requires in (
      omega arith,
      search rules,
      rows_more _ _ _ done c.sizes_in-z.ensures _
          c.loop-place.invariant.2 (put_written _ _ _ _ (rw (← c.sizes_in-z.ensures) (omega arith)) (rw (← c.sizes_in-z.ensures) (omega (arith, c.loop-place.invariant.1, row_from _ _ _ done c.sizes_in-z.ensures _ c.loop-place-test.true))) c.write_row.ensures),
    )

pub returns : goal.returns
returns c =
    rows_written _ _ _ c.requires c.sizes_in-z.ensures (omega arith) c.loop-place.invariant.2
