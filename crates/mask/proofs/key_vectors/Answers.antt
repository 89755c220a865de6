use Prim.Native.Nat.{◌+◌, ◌*◌}
use mathlib.Core.Path.{◌∙◌}
use native.Mathlib.Omega.{arith}
use Rattle.lists.proofs.PutLaws.{grid_none}
use Rattle.lists.proofs.PartLaws.{length_part}
use Rattle.sizes.specs.Lengths.{n_most}
use Rattle.mask.proofs.SetupLaws.{vectors_more, vectors_at}
use Rattle.mask.proofs.key_vectors.Goals as goal

pub loop-s-init : goal.loop-s-init
loop-s-init c = grid_none _ _ _ _

pub loop-s-preserved : goal.loop-s-preserved
loop-s-preserved c =
    let l = c.loop-s in
    let first = l.s * n_most in
    vectors_more _ _ _ l.s _ (length_part first (first + n_most) l.vectors (omega arith) ∙ omega arith) c.requires.1 (omega arith) c.key_vector_into.ensures
    l.invariant (omega arith) (omega arith)

pub returns : goal.returns
returns c = vectors_at _ _ _ _ _ c.requires.1 (omega arith) (omega arith) c.loop-s.invariant
