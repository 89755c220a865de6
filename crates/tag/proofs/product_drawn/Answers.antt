use mathlib.Core.Path.{ap, ◌∙◌}
use native.Mathlib.Omega.{arith}
use Rattle.field.specs.Field.{times}
use Rattle.field.proofs.SumLaws.{sum_none, sum_more, sum_all}
use Rattle.lists.specs.Lists.{at}
use Rattle.vector.specs.Vectors.{product}
use Rattle.keystream.proofs.DrawLaws.{after_none, after_more}
use Rattle.tag.proofs.product_drawn.Goals as goal

pub loop-x-init : goal.loop-x-init
unfolding product
loop-x-init c = (sum_none _, after_none _)

pub loop-x-preserved : goal.loop-x-preserved
unfolding product
loop-x-preserved c =
    let a = c.args in
    let i = c.loop-x.invariant in
    let d = after_more _ _ i.1 c.next-d.ensures in
    (sum_more _ _ i.0 (c.product-total.ensures ∙ ap (times (at a.u.now c.loop-x.x-index)) d.0), d.1)

pub returns : goal.returns
unfolding product
returns c = sum_all _ (omega arith) c.loop-x.invariant.0
