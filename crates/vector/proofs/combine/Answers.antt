use borrow.Author.Rules.{rules}
use mathlib.Core.Path.{◌≡◌, refl, ap}
use Prim.Native.Nat.{◌+◌, ◌*◌}
use native.Mathlib.Omega.{arith}
use lib.ListN.{length}
use Rattle.lists.proofs.PartLaws.{part_at}
use Rattle.field.specs.Field.{times}
use Rattle.vector.proofs.AddedLaws.{mixed_none, mixed_more}
use Rattle.vector.proofs.combine.Goals as goal

pub loop-i-init : goal.loop-i-init
loop-i-init c = (omega arith, refl, mixed_none _ _ _ _ _)

pub loop-i-preserved : goal.loop-i-preserved
loop-i-preserved c =
    let i = c.loop-i.invariant in
    let u = c.args.u.now in
    let len = length c.args.out.now in
    let first = c.loop-i.i * len in (
      omega arith,
      search rules,
      mixed_more len 0 _ _ _ c.loop-i.i _ (omega arith) i.2 (rw i.1 at c.add_multiple.ensures)
          (λ e l. ap (times _) (part_at first (first + len) u e (omega arith))),
    )

pub returns : goal.returns
returns c =
    let l = c.loop-i in
    let e : l.i ≡ c.args.count = omega arith in
    rw e at l.invariant.2
