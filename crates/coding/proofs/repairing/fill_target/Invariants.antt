use Prim.Native.Nat.{◌*◌, ◌+◌}
use mathlib.Core.Path.{◌≡◌}
use Rattle.lists.specs.Lists.{at, grid}
use Rattle.vector.specs.Vectors.{mixed}
use Rattle.sizes.specs.Lengths.{record_start}
use Rattle.coding.proofs.repairing.fill_target.Given as goal

abbrev pub invariant-loop-k : goal.invariant-loop-k
invariant-loop-k l =
    l.archive ≡ grid l.k l.len (record_start l.z (l.target * l.z.places)) (λ j. mixed l.count (λ t. at l.thetas (t * l.z.places + j)) (λ t e. at l.scratch (t * l.len + e))) l.initial.archive
