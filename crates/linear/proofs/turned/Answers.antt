use mathlib.Core.Path.{◌≡◌, refl, ◌∙◌}
use mathlib.Core.List.{List, []}
use Prim.Native.Nat.{ℕ, ◌<◌}
use native.Mathlib.Omega.{arith}
use lib.ListN.{length-set}
use Rattle.lists.specs.Lists.{at}
use Rattle.linear.specs.PrivateElimination.{cells}
use Rattle.linear.proofs.ArrayLaws.{stored}
use Rattle.linear.proofs.turned.Goals as goal

pub loop-i-init : goal.loop-i-init
loop-i-init c = (refl, λ q l. absurd (omega arith))

pub loop-i-preserved : goal.loop-i-preserved
loop-i-preserved c =
    let l = c.loop-i in
    let a = c.args.a in
    let turned : ℕ → List ℕ → Type 0 = λ q x. (j : ℕ) → j < 16 → at x j ≡ cells a j q in
    (length-set l.row-items _ _ ∙ l.invariant.0, stored [] l.row-items l.i _ turned (omega arith) l.invariant.1 c.column.ensures)

pub returns : goal.returns
returns c = λ i j l. c.loop-i.invariant.1 i (omega arith) j
