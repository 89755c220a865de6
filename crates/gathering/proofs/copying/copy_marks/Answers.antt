use Prim.Native.Nat.{◌+◌, ◌-◌}
use borrow.Author.Rules.{rules}
use mathlib.Core.Path.{◌≡◌, refl}
use native.Mathlib.Omega.{arith}
use Rattle.gathering.proofs.GatherLaws.{copied_none, copied_more}
use Rattle.gathering.proofs.copying.copy_marks.Goals as goal

pub loop-place-init : goal.loop-place-init
loop-place-init c =
    let a = c.args in
    let q : a.k - a.k ≡ 0 = omega arith in
    (omega arith, omega arith, refl, rw q (copied_none _ _ _ c.requires.1 (λ i. omega (arith, c.type_inv.archive i))))

pub loop-place-preserved : goal.loop-place-preserved
loop-place-preserved c =
    let i = c.loop-place.invariant in
    let r : c.loop-place.place + 1 - c.args.k ≡ c.loop-place.place - c.args.k + 1 = omega arith in
    (omega arith, omega arith, search rules, rw r (copied_more _ _ _ c.requires.1 i.0 i.3 c.marked.ensures c.set_marks.ensures))

pub returns : goal.returns
returns c =
    let a = c.args in
    let q : c.loop-place.place - a.k ≡ a.count = omega arith in
    rw q at c.loop-place.invariant.3
