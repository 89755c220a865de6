use native.Mathlib.Omega.{arith}
use Rattle.field.proofs.SumLaws.{sum_none, sum_more, sum_all}
use Rattle.vector.specs.Vectors.{product}
use Rattle.vector.proofs.product_of.Goals as goal

pub loop-e-init : goal.loop-e-init
unfolding product
loop-e-init c = (omega arith, sum_none _)

pub loop-e-preserved : goal.loop-e-preserved
unfolding product
loop-e-preserved c = (omega arith, sum_more _ _ c.loop-e.invariant.1 c.product-total.ensures)

pub returns : goal.returns
unfolding product
returns c = sum_all _ (omega arith) c.loop-e.invariant.1
