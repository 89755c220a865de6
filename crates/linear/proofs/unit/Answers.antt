use mathlib.Core.Path.{◌≡◌, refl, ◌∙◌, ap}
use mathlib.Core.List.{List, []}
use Prim.Native.Nat.{ℕ}
use native.Mathlib.Omega.{arith}
use lib.ListN.{set, length-set, replicate, get_or-replicate}
use Rattle.lists.specs.Lists.{at}
use Rattle.linear.proofs.ArrayLaws.{stored, stored_kept}
use Rattle.linear.proofs.RowStoreLaws.{units}
use Rattle.linear.proofs.unit.Goals as goal

pub loop-i-init : goal.loop-i-init
loop-i-init c = (refl, (λ q l. absurd (omega arith)), λ q l b. get_or-replicate 16 q (replicate 16 0) [] b)

pub loop-i-preserved : goal.loop-i-preserved
loop-i-preserved c =
    let l = c.loop-i in (
      length-set l.row-items _ _ ∙ l.invariant.0,
      stored [] l.row-items l.i _ (λ q x. x ≡ set (replicate 16 0) q 1) (omega arith) l.invariant.1
          (ap (λ (x : List ℕ). set x l.i 1) (l.invariant.2 l.i (omega arith) (omega arith))),
      λ q b n. stored_kept [] l.row-items l.i q _ (omega arith) ∙ l.invariant.2 q (omega arith) n,
    )

pub returns : goal.returns
returns c = λ i j l b. ap (λ (x : List ℕ). at x j) (c.loop-i.invariant.1 i (omega arith)) ∙ units i j l b
