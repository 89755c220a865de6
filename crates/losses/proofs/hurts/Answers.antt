use native.Mathlib.Omega.{arith}
use Rattle.losses.proofs.RemainLaws.{rank_decides}
use Rattle.losses.proofs.hurts.Goals as goal

pub eliminate-requires : goal.eliminate-requires
eliminate-requires c =
    let w = c.take-chosen.ensures in
    (w.choice.fits, λ t h. omega (arith, w.choice.below t h, w.there))

pub returns : goal.returns
returns c =
    rank_decides c.args.records.z c.args.records.bytes.now c.args.set c.args.filled c.without.result c.requires c.without.ensures _ c.take-chosen.ensures _ _
    c.eliminate.ensures
