use mathlib.Core.Path.{◌≡◌}
use Prim.Native.Nat.{ℕ, ◌<◌}
use lib.ListN.{length}
use Rattle.linear.specs.PrivateElimination.{cells}
use Rattle.linear.proofs.turned.Given as goal

abbrev pub invariant-loop-i : goal.invariant-loop-i
invariant-loop-i l = (length l.row-items ≡ 16) × ((q : ℕ) → q < l.i → (j : ℕ) → j < 16 → cells l.row-items q j ≡ cells l.a j q)
