use mathlib.Core.Path.{◌≡◌, refl, sym, ◌∙◌, ap}
use Prim.Native.Nat.{◌≤◌}
use native.Mathlib.Omega.{arith}
use borrow.Author.Rules.{rules}
use borrow.Author.Count.{below_more}
use Rattle.linear.specs.PrivateElimination.{cells}
use Rattle.linear.proofs.ArrayLaws.{cell_bytes}
use Rattle.linear.proofs.RowStoreLaws.{clear_start_lem, clear_by, clear_skip, clear_store, clear_end}
use Rattle.linear.proofs.ColumnLaws.{head_start, head_at, head_skip, head_step, head_end}
use Rattle.linear.proofs.eliminated.Goals as goal

pub columns-init : goal.columns-init
columns-init c = head_start _ _ _ _ (λ i j l b. c.unit-t.ensures i j (omega arith) (omega arith))

pub search-init : goal.search-init
search-init c = (omega arith, refl, λ i l b. absurd (omega arith))

pub columns-preserved-then-r-k : goal.columns-preserved-then-r-k
columns-preserved-then-r-k c =
    let l = c.columns in
    let s = c.search in
    head_skip _ _ _ _ _ _ _ s.r (head_at s.invariant.1 l.invariant) (omega arith) (rw s.invariant.1 s.invariant.2) (omega arith)

pub search-preserved : goal.search-preserved
search-preserved c =
    let l = c.columns in
    let s = c.search in
    (omega arith, s.invariant.1, below_more (λ i. l.top ≤ i → cells l.e i l.col ≡ 0) _ s.invariant.2 (λ b. ap (cells l.e _) (sym s.invariant.1) ∙ c.if-e-r-ne0.false))

pub rows-init : goal.rows-init
rows-init c = (omega arith, omega arith, clear_start_lem _ _ _ _ (search rules), clear_start_lem _ _ _ _ (search rules))

pub rows-preserved-then-i-top : goal.rows-preserved-then-i-top
rows-preserved-then-i-top c =
    let l = c.rows in
    (omega arith, l.invariant.1, clear_skip _ _ _ _ l.e l.i c.if-i-top.true l.invariant.2, clear_skip _ _ _ _ l.t l.i c.if-i-top.true l.invariant.3)

pub rows-preserved : goal.rows-preserved
rows-preserved c =
    let l = c.rows in
    let x = clear_by _ _ _ _ l.e l.i l.invariant.2 in (
      omega arith,
      l.invariant.1,
      clear_store _ _ _ _ l.e l.i _ c.added_row.result c.if-i-top.false (omega arith) l.invariant.2 x c.added_row.ensures,
      clear_store _ _ _ _ l.t l.i _ c.added_row-in-rows.result c.if-i-top.false (omega arith) l.invariant.3 x c.added_row-in-rows.ensures,
    )

pub columns-preserved : goal.columns-preserved
columns-preserved c =
    let l = c.rows in
    let s = c.search in
    let h = c.columns in
    head_step c.args.k c.args.m (cells c.args.a) (cell_bytes c.args.a c.well_formed.1.0.0 c.well_formed.1.0.1.1) (omega arith) (omega arith)
    h.e h.t c.swapped.result c.swapped-in-columns.result c.scaled-e.result c.scaled-t.result
    l.e l.t h.top h.col s.r c.inverse_of-c.result
    (head_at s.invariant.1 h.invariant) (omega arith) s.invariant.0 (omega arith) c.inverse_of-c.ensures
    c.swapped.ensures c.swapped-in-columns.ensures c.scaled-e.ensures c.scaled-t.ensures
    (clear_end _ _ _ _ l.t _ l.i (omega arith) l.invariant.3) (clear_end _ _ _ _ l.e _ l.i (omega arith) l.invariant.2)

pub returns : goal.returns
returns c =
    head_end _ _ _ _ _ _ _ (cell_bytes c.args.a c.well_formed.1.0.0 c.well_formed.1.0.1.1) c.columns.invariant (omega arith)
