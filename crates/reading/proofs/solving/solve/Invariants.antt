use Prim.Native.Nat.{◌≤◌}
use mathlib.Core.Path.{◌≡◌}
use lib.ListN.{length}
use Rattle.lists.specs.Lists.{at, grid}
use Rattle.vector.specs.Vectors.{mixed}
use Rattle.linear.specs.PrivateElimination.{cells}
use Rattle.archive.specs.Layout.{byte_in}
use Rattle.reading.proofs.solving.solve.Given as goal

abbrev pub invariant-loop-i : goal.invariant-loop-i
invariant-loop-i l =
    (l.i ≤ l.i-end) × (length l.file ≡ length l.initial.file)
    × (l.file ≡ grid l.i l.len 0 (λ j. mixed l.records.z.m (cells l.combinations j) (λ t. byte_in l.records.z l.records.bytes.now (at l.places t))) l.initial.file)
