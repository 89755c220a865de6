use mathlib.Core.Path.{◌≡◌, ◌∙◌}
use native.Mathlib.Omega.{arith}
use Rattle.field.proofs.SumLaws.{sum_none, sum_more, sum_all}
use Rattle.keystream.proofs.DrawLaws.{after_none, draw_at}
use Rattle.loops.proofs.loops_draw.Goals as goal

pub loop-init : goal.loop-init
loop-init c = (omega arith, c.new-s.ensures ∙ after_none _, sum_none _)

pub loop-preserved : goal.loop-preserved
loop-preserved c =
    let d = draw_at _ _ _ c.loop.invariant.1 c.next-d.ensures in
    (omega arith, d.1, sum_more _ _ c.loop.invariant.2 d.0)

pub returns : goal.returns
returns c =
    let e : c.loop.counter ≡ c.args.n = omega arith in
    sum_all _ e c.loop.invariant.2
