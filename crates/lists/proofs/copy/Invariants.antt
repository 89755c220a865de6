use mathlib.Core.Path.{◌≡◌}
use Rattle.lists.specs.Lists.{at, put}
use Rattle.lists.proofs.copy.Given as goal

abbrev pub invariant-loop-i : goal.invariant-loop-i
invariant-loop-i l = l.to ≡ put l.i 0 (at l.from) l.initial.to
