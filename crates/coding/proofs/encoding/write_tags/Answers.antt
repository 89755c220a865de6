use native.Mathlib.Omega.{arith}
use lib.ListN.{length}
use Rattle.lists.proofs.PutLaws.{put_none}
use Rattle.lists.proofs.ChainLaws.{item_more, items_all}
use Rattle.coding.proofs.EncodeLaws.{tag_drawn}
use Rattle.coding.proofs.encoding.write_tags.Goals as goal

pub loop-k-init : goal.loop-k-init
loop-k-init c = put_none _ _ _

pub loop-k-preserved : goal.loop-k-preserved
loop-k-preserved c =
    item_more _ _ _ c.loop-k.invariant (tag_drawn c.loop-k.k c.args.tag_key c.args.id c.args.block.now c.key_stream.result c.key_stream.ensures c.product_drawn.ensures)

pub returns : goal.returns
returns c = items_all _ _ (length c.args.tags.now) _ (omega arith) c.loop-k.auto.tags c.loop-k.invariant
