use Prim.Native.Nat.{ℕ, ◌<◌}
use mathlib.Core.Path.{◌≡◌, refl, ap, ◌∙◌}
use mathlib.Core.List.{List, []}
use mathlib.Core.Logic.{inl, inr}
use native.Mathlib.Omega.{arith}
use lib.ListN.{replicate, get_or-replicate}
use Rattle.lists.specs.Lists.{at}
use Rattle.linear.specs.PrivateElimination.{cells}
use Rattle.choice.proofs.ChoiceLaws.{choice_none}
use Rattle.choice.proofs.rows.Rows.choose.Goals as goal

-- rows of zeros
zeros : (p i : ℕ) → p < 16 → i < 16 → cells (replicate 16 (replicate 16 0)) p i ≡ 0
zeros p i h l = ap (λ (r : List ℕ). at r i) (get_or-replicate 16 p (replicate 16 0) [] h) ∙ get_or-replicate 16 i 0 0 l

pub loop-k-init : goal.loop-k-init
loop-k-init g c =
    let width = c.args.self.now.standing.1 in
    (omega arith, refl, choice_none _ _ _ _ _ refl refl (λ p i h l. zeros p i (omega (arith, width)) (omega (arith, width))))

pub returns-then-c-self : goal.returns-then-c-self
returns-then-c-self g c =
    let l = c.loop-k in
    record { end = l.k; there = omega (arith, l.invariant.1); choice = rw c.marks-marks.ensures at l.invariant.2.choice; ended = inr c.if-c-self.true }

pub consult-c-requires : goal.consult-c-requires
consult-c-requires g c =
    let l = c.loop-k in
    (omega (arith, l.invariant.1), omega (arith, l.invariant.2.choice.fits), l.invariant.2)

pub loop-k-preserved : goal.loop-k-preserved
loop-k-preserved g c = let l = c.loop-k in (omega arith, l.invariant.1, c.consult-c.ensures)

pub returns : goal.returns
returns g c =
    let l = c.loop-k in
    record { end = l.k; there = omega (arith, l.invariant.1); choice = rw c.marks-marks.ensures at l.invariant.2.choice; ended = inl (omega (arith, l.invariant.1)) }
