use Prim.Native.Nat.{ℕ}
use mathlib.Core.Path.{ap, ◌∙◌}
use native.Mathlib.Omega.{arith}
use lib.Seq.{get_or-take}
use Rattle.lists.specs.Lists.{at}
use Rattle.vector.specs.Vectors.{product}
use Rattle.vector.proofs.VectorLaws.{product_keys}
use Rattle.vector.proofs.SliceLaws.{product_in_front}
use Rattle.loops.proofs.loops_product.Goals as goal

pub returns : goal.returns
returns c =
    let a = c.args.a.now in
    let b = c.args.b.now in
    product_in_front c.min-n.result a _ (omega arith) c.product_of.ensures
    ∙ product_keys c.min-n.result _ _ _ (λ i h. get_or-take c.min-n.result b i 0 h)
    ∙ ap (λ (n : ℕ). product n (at a) (at b)) c.min-n.ensures
