use mathlib.Core.Path.{◌≡◌}
use Rattle.lists.specs.Lists.{at, grid}
use Rattle.vector.specs.Vectors.{product}
use Rattle.linear.specs.PrivateElimination.{cells}
use Rattle.archive.specs.Plan.{wanted_row}
use Rattle.planning.specs.PrivatePlan.{row_for}
use Rattle.planning.proofs.thetas.Wanted.write_thetas.Given as goal

-- The loop has written the thetas of the first t blocks. Assumes nothing.
abbrev pub invariant-loop-t : goal.invariant-loop-t
invariant-loop-t l =
    l.thetas
    ≡ grid l.t l.self.z.places 0 (λ j k. product l.self.z.m (wanted_row l.self.z l.self.rows.now k) (row_for l.count (at l.numbers) (cells l.combinations) j)) l.initial.thetas
