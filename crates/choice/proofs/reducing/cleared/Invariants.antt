use Prim.Native.Nat.{◌≤◌}
use Rattle.lists.specs.Lists.{at}
use Rattle.linear.specs.PrivateElimination.{cells}
use Rattle.choice.specs.PrivateReduced.{Cleared}
use Rattle.choice.proofs.reducing.cleared.Given as goal

-- The loop has cleared the first p elements. Assumes nothing.
abbrev pub invariant-loop-p : goal.invariant-loop-p
invariant-loop-p l = (l.p ≤ l.m) × Cleared l.p l.m (cells l.reduced) (at l.initial.out) (at l.out)
