use Prim.Native.Nat.{◌+◌, ◌-◌}
use native.Mathlib.Nat.{mul-le-mul_right}
use native.Mathlib.Omega.{arith}
use lib.ListN.{length}
use Rattle.lists.proofs.PutLaws.{put_none}
use Rattle.lists.proofs.ChainLaws.{item_more, items_all}
use Rattle.proving.proofs.write_sums.Goals as goal

pub loop-s-init : goal.loop-s-init
loop-s-init c = put_none _ _ _

pub mask_sum-requires : goal.mask_sum-requires
mask_sum-requires c =
    let s = c.loop-s.s in (
      omega (arith, c.requires.0),
      omega (arith, c.requires.1, mul-le-mul_right {m = s + 1} {n = length c.args.sums.now} (c.args.rows.now.n - 1) (omega arith)),
    )

pub loop-s-preserved : goal.loop-s-preserved
loop-s-preserved c = item_more _ _ _ c.loop-s.invariant c.mask_sum.ensures

pub returns : goal.returns
returns c = items_all _ _ _ _ (omega arith) c.loop-s.auto.sums c.loop-s.invariant
