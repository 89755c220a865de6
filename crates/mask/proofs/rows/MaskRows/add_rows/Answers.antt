use Prim.Native.Nat.{◌-◌}
use mathlib.Core.Path.{◌≡◌, ap₂, ◌∙◌}
use native.Mathlib.Omega.{arith}
use lib.ListN.{length}
use lib.Seq.{get_or-take}
use Rattle.field.specs.Field.{times}
use Rattle.keystream.proofs.DrawLaws.{after_none, after_more}
use Rattle.vector.proofs.AddedLaws.{mixed_none, mixed_more}
use Rattle.mask.specs.Masks.{mask}
use Rattle.mask.proofs.rows.MaskRows.add_rows.Goals as goal

pub loop-i-init : goal.loop-i-init
loop-i-init c = (after_none _, mixed_none _ _ _ _ _)

pub loop-i-preserved : goal.loop-i-preserved
loop-i-preserved c =
    let i = c.loop-i.invariant in
    let d = after_more _ _ i.0 c.next-d.ensures in
    let row = c.row-row in
    let long : length c.loop-i.out ≡ c.args.self.now.n - 2 = omega (arith, c.loop-i.auto.out, c.requires) in (
      d.1,
      mixed_more _ _ _ _ _ _ _ (omega (arith, c.requires)) i.1 (rw long at c.add_multiple.ensures)
          (λ e l. ap₂ times d.0 (get_or-take (c.args.self.now.n - 2) c.row-row.result e 0 l ∙ row.ensures e l)),
    )

pub returns : goal.returns
unfolding mask
returns c =
    let l = c.loop-i in
    let e : l.i ≡ c.args.self.now.n - 1 = omega arith in
    rw e at l.invariant.1
