use Rattle.std.proofs.Common.{refl, arith}
use Rattle.lists.proofs.PutLaws.{put_none}
use Rattle.lists.proofs.ChainLaws.{item_more, item_as_before, items_all}
use Rattle.keystream.specs.ChaCha.{block_words}
use Rattle.keystream.proofs.chacha.block_words.Goals as goal

pub loop-i-init : goal.loop-i-init
loop-i-init c = put_none _ _ _

pub loop-i-preserved : goal.loop-i-preserved
loop-i-preserved c =
    let e = item_as_before _ _ _ c.loop-i.invariant in
    item_more _ _ _ c.loop-i.invariant (rw e refl)

pub returns : goal.returns
unfolding block_words
returns c = rw (← c.ten_rounds-words.ensures) (items_all _ _ 16 _ (omega arith) c.loop-i-test.array_long c.loop-i.invariant)
