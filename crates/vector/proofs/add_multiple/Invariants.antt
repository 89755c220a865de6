use mathlib.Core.Path.{◌≡◌}
use Rattle.lists.specs.Lists.{at}
use Rattle.field.specs.Field.{times}
use Rattle.vector.specs.Vectors.{added}
use Rattle.vector.proofs.add_multiple.Given as goal

abbrev pub invariant-loop-e : goal.invariant-loop-e
invariant-loop-e l =
    l.out ≡ added l.e 0 (λ i. times l.c (at l.u i)) l.initial.out
