use mathlib.Core.Path.{◌≡◌}
use Rattle.lists.specs.Lists.{at, put}
use Rattle.vector.specs.Vectors.{product}
use Rattle.archive.specs.Plan.{wanted_row}
use Rattle.planning.proofs.thetas.Wanted.write_block.Given as goal

-- The thetas of the first k places are written. Assumes nothing.
abbrev pub invariant-loop-k : goal.invariant-loop-k
invariant-loop-k l =
    l.thetas ≡ put l.k 0 (λ j. product l.self.z.m (wanted_row l.self.z l.self.rows.now j) (at l.v)) l.initial.thetas
