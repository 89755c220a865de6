use mathlib.Core.Path.{◌≡◌}
use Prim.Native.Nat.{◌+◌}
use Rattle.lists.specs.Lists.{at}
use Rattle.vector.specs.Vectors.{mixed, added}
use Rattle.archive.specs.Read.{row_in}
use Rattle.planning.proofs.rows.add_rows.Given as goal

-- The rows of the first l places have been added. Assumes nothing.
abbrev pub invariant-loop-l : goal.invariant-loop-l
invariant-loop-l l = l.out ≡ added l.z.m 0 (mixed l.l (at l.gammas) (λ j. row_in l.z l.records.bytes.now (l.first + j))) l.initial.out
