use Prim.Native.Nat.{ℕ, ◌+◌}
use mathlib.Core.Path.{◌≡◌, sym, subst}
use mathlib.Core.List.{List}
use native.Mathlib.Omega.{arith}
use Rattle.lists.specs.Lists.{at}
use Rattle.linear.specs.PrivateElimination.{cells}
use Rattle.linear.proofs.ArrayLaws.{row_bytes}
use Rattle.choice.specs.PrivateReduced.{Cleared}
use Rattle.choice.proofs.ReducedLaws.{cleared_start, cleared_skip, cleared_step}
use Rattle.choice.proofs.reducing.cleared.Goals as goal
use Rattle.choice.proofs.reducing.cleared.Goals.{then-reduced-p-ne0, else-reduced-p-ne0}

pub loop-p-init : goal.loop-p-init
loop-p-init c = (omega arith, cleared_start _ _ _ (λ i l. row_bytes c.args.v _ c.well_formed.1.1.0 i))

pub loop-p-preserved : goal.loop-p-preserved
loop-p-preserved c =
    let l = c.loop-p in
    let a = c.args in
    let next : List ℕ → Type 0 = λ out. Cleared (l.p + 1) a.m (cells a.reduced) (at a.v) (at out) in (
      omega arith,
      elim c.if-reduced-p-ne0.branch [
        | then-reduced-p-ne0 w ↦
            subst next (sym w.out-is)
            (cleared_step l.p a.m (cells a.reduced) (at a.v) (at l.out) _ c.loop-p-test.true c.requires.1 l.invariant.1
            (λ i h. w.added_row-out.ensures i (omega (arith, c.requires.0))))
        | else-reduced-p-ne0 w ↦
            subst next (sym w.out-is) (cleared_skip l.p a.m (cells a.reduced) (at a.v) (at l.out) w.if-reduced-p-ne0.false l.invariant.1)
      ],
    )

pub returns : goal.returns
returns c =
    let l = c.loop-p in
    let e : l.p ≡ c.args.m = omega arith in
    subst (λ (n : ℕ). Cleared n c.args.m (cells c.args.reduced) (at c.args.v) (at l.out)) e l.invariant.1
