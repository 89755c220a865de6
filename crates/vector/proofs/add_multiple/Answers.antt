use mathlib.Core.Path.{◌≡◌}
use native.Mathlib.Omega.{arith}
use lib.ListN.{length}
use Rattle.vector.proofs.AddedLaws.{added_none, added_front}
use Rattle.vector.proofs.add_multiple.Goals as goal

pub loop-e-init : goal.loop-e-init
loop-e-init c = added_none _ _ _

pub loop-e-preserved : goal.loop-e-preserved
loop-e-preserved c = added_front _ _ _ c.loop-e.invariant c.product_by_log.ensures

pub returns : goal.returns
returns c =
    let l = c.loop-e in
    let e : l.e ≡ length c.args.out.now = omega arith in
    rw e at l.invariant
