use mathlib.Core.Path.{◌≡◌}
use Prim.Native.Nat.{ℕ, ◌<◌}
use lib.ListN.{length}
use Rattle.lists.specs.Lists.{at}
use Rattle.linear.specs.PrivateElimination.{cells}
use Rattle.linear.proofs.column.Given as goal

abbrev pub invariant-loop-i : goal.invariant-loop-i
invariant-loop-i l = (length l.element-items ≡ 16) × ((q : ℕ) → q < l.i → at l.element-items q ≡ cells l.a q l.j)
