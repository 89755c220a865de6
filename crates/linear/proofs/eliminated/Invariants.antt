use mathlib.Core.Path.{◌≡◌}
use Prim.Native.Nat.{◌≤◌, ◌-◌}
use Rattle.linear.specs.PrivateElimination.{cells}
use Rattle.linear.proofs.RowStoreLaws.{Clearing}
use Rattle.linear.proofs.ColumnLaws.{Head, Passed}
use Rattle.linear.proofs.eliminated.Given as goal

abbrev pub invariant-search : goal.invariant-search
invariant-search l = (l.top ≤ l.r) × (l.col ≡ l.initial.col) × Passed (cells l.e) l.initial.col l.top l.r

abbrev pub decreases-search : goal.decreases-search
decreases-search l = l.k - l.r

abbrev pub invariant-rows : goal.invariant-rows
invariant-rows l = (l.i ≤ l.k) × (l.k ≤ 16) × Clearing l.initial.e l.initial.e l.top l.col l.e l.i × Clearing l.initial.t l.initial.e l.top l.col l.t l.i

abbrev pub invariant-columns : goal.invariant-columns
invariant-columns l = Head l.k l.m (cells l.initial.e) (cells l.e) (cells l.t) l.top l.col
