use mathlib.Core.Path.{◌≡◌}
use lib.ListN.{length}
use Rattle.lists.specs.Lists.{at, put}
use Rattle.vector.specs.Vectors.{product}
use Rattle.tag.specs.KeyVector.{key_vector}
use Rattle.coding.proofs.encoding.write_tags.Given as goal

abbrev pub invariant-loop-k : goal.invariant-loop-k
invariant-loop-k l = l.tags ≡ put l.k 0 (λ j. product (length l.block) (at l.block) (key_vector l.tag_key l.id j)) l.initial.tags
