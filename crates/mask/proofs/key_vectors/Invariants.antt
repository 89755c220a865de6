use mathlib.Core.Path.{◌≡◌}
use Rattle.lists.specs.Lists.{grid}
use Rattle.sizes.specs.Lengths.{n_most}
use Rattle.tag.specs.KeyVector.{key_vector}
use Rattle.mask.proofs.key_vectors.Given as goal

abbrev pub invariant-loop-s : goal.invariant-loop-s
invariant-loop-s l = l.vectors ≡ grid l.s n_most 0 (key_vector l.tag_key l.id) l.initial.vectors
