use mathlib.Core.Path.{sym, ◌∙◌}
use native.Mathlib.Omega.{arith}
use Rattle.lists.proofs.SliceLaws.{tab_filled, tab_copied}
use Rattle.sizes.proofs.SizeLaws.{not_sizes_outside}
use Rattle.archive.proofs.GoodArchiveLaws.{good_length}
use Rattle.archive.proofs.CallLaws.{read_sizes}
use Rattle.gathering.proofs.RowsLaws.{row_mark, row_in_lem, row_stored, row_empty}
use Rattle.gathering.proofs.telling.write_row.Goals as goal

pub sizes_in-z-requires : goal.sizes_in-z-requires
sizes_in-z-requires c = omega (arith, good_length _ c.requires.0)

pub overflow_add-k : goal.overflow_add-k
overflow_add-k c =
    let p = c.requires in
    omega (arith, row_mark _ _ _ c.sizes_in-z.ensures p.0 p.1 p.2)

pub overflow_mul-k : goal.overflow_mul-k
overflow_mul-k c =
    let p = c.requires in
    omega (arith, row_mark _ _ _ c.sizes_in-z.ensures p.0 p.1 p.2)

pub marked-requires : goal.marked-requires
marked-requires c =
    let p = c.requires in
    (row_mark _ _ _ c.sizes_in-z.ensures p.0 p.1 p.2, omega (arith, good_length _ p.0))

pub record_start-requires : goal.record_start-requires
record_start-requires c =
    let read = c.sizes_in-z.ensures in
    let p = c.requires in
    (not_sizes_outside _ (read_sizes _ read p.0), row_mark _ _ _ read p.0 p.1 p.2)

pub overflow_add-start : goal.overflow_add-start
overflow_add-start c =
    let p = c.requires in
    omega (arith, row_in_lem _ _ _ c.sizes_in-z.ensures p.0 p.1 p.2)

pub overflow_add-start-2 : goal.overflow_add-start-2
overflow_add-start-2 c =
    let p = c.requires in
    omega (arith, row_in_lem _ _ _ c.sizes_in-z.ensures p.0 p.1 p.2)

pub slice_bounds-copy-end : goal.slice_bounds-copy-end
slice_bounds-copy-end c =
    let p = c.requires in
    omega (arith, row_in_lem _ _ _ c.sizes_in-z.ensures p.0 p.1 p.2)

pub returns-then-not-marked : goal.returns-then-not-marked
returns-then-not-marked c =
    row_empty _ _ _ c.sizes_in-z.ensures (sym c.marked.ensures ∙ c.if-not-marked.true)
    (tab_filled _ 0 (rw (c.sizes_in-z.ensures, ← c.requires.3) (c.fill.ensures.after (λ y e. e))))

pub returns : goal.returns
returns c =
    let p = c.requires in
    row_stored _ _ _ c.sizes_in-z.ensures (sym c.marked.ensures ∙ c.if-not-marked.false) c.record_start.ensures
    (tab_copied _ _ _ (omega arith) (omega (arith, row_in_lem _ _ _ c.sizes_in-z.ensures p.0 p.1 p.2)) c.copy.ensures)
