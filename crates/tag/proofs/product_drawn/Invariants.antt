use mathlib.Core.Path.{◌≡◌}
use Rattle.lists.specs.Lists.{at}
use Rattle.keystream.specs.PrivateStream.{drawn, after}
use Rattle.vector.specs.Vectors.{product}
use Rattle.tag.proofs.product_drawn.Given as goal

abbrev pub invariant-loop-x : goal.invariant-loop-x
invariant-loop-x l =
    (l.total ≡ product l.x-index (at l.u) (λ i. (drawn (after i l.initial.t)).byte)) × (l.t ≡ after l.x-index l.initial.t)
