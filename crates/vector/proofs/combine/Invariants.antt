use Prim.Native.Nat.{◌≤◌, ◌+◌, ◌*◌}
use mathlib.Core.Path.{◌≡◌}
use lib.ListN.{length}
use Rattle.lists.specs.Lists.{at}
use Rattle.vector.specs.Vectors.{mixed, added}
use Rattle.vector.proofs.combine.Given as goal

abbrev pub invariant-loop-i : goal.invariant-loop-i
invariant-loop-i l =
    (l.i ≤ l.count) × (length l.out ≡ length l.initial.out) × (l.out ≡ added l.len 0 (mixed l.i (λ j. at l.c (j * l.step)) (λ j e. at l.u (j * l.len + e))) l.initial.out)
