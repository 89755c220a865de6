use native.Mathlib.Omega.{arith}
use Rattle.lists.proofs.PutLaws.{put_none}
use Rattle.lists.proofs.ChainLaws.{item_more, items_all}
use Rattle.keystream.proofs.DrawLaws.{after_none, after_more}
use Rattle.tag.proofs.draw_into.Goals as goal

pub loop-byte-init : goal.loop-byte-init
loop-byte-init c = (put_none _ _ _, after_none _)

pub loop-byte-preserved : goal.loop-byte-preserved
loop-byte-preserved c =
    let i = c.loop-byte.invariant in
    let d = after_more _ _ i.1 c.next-d.ensures in
    (item_more _ _ _ i.0 d.0, d.1)

pub returns : goal.returns
returns c =
    let l = c.loop-byte in
    items_all _ _ _ _ (omega arith) l.auto.out l.invariant.0
