use mathlib.Core.Path.{◌≡◌, refl, ◌∙◌}
use native.Mathlib.Omega.{arith}
use lib.ListN.{length-set}
use Rattle.linear.specs.PrivateElimination.{cells}
use Rattle.linear.proofs.ArrayLaws.{stored}
use Rattle.linear.proofs.column.Goals as goal

pub loop-i-init : goal.loop-i-init
loop-i-init c = (refl, λ q l. absurd (omega arith))

pub loop-i-preserved : goal.loop-i-preserved
loop-i-preserved c =
    let l = c.loop-i in
    let a = c.args in
    (length-set l.element-items _ _ ∙ l.invariant.0, stored 0 l.element-items l.i _ (λ q x. x ≡ cells a.a q a.j) (omega arith) l.invariant.1 refl)

pub returns : goal.returns
returns c = λ i l. c.loop-i.invariant.1 i (omega arith)
