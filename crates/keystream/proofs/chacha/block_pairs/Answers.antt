use Rattle.std.proofs.Common.{◌*◌, ◌+◌, ◌<◌, arith, ap, ◌∙◌}
use Rattle.lists.specs.Lists.{at}
use Rattle.lists.proofs.PutLaws.{put_none}
use Rattle.lists.proofs.ChainLaws.{item_more, items_all}
use Rattle.keystream.specs.PrivateStream.{pairs_of}
use Rattle.keystream.proofs.DrawLaws.{word_low}
use Rattle.keystream.proofs.chacha.block_pairs.Goals as goal

pub loop-i-init : goal.loop-i-init
loop-i-init c = put_none _ _ _

pub loop-i-preserved : goal.loop-i-preserved
loop-i-preserved c =
    let low : at c.block_words-words.result (c.loop-i.i * 2 + 1) < 4294967296 = rw c.block_words-words.ensures (word_low c.args.w (c.loop-i.i * 2 + 1) (omega arith)) in
    item_more _ _ _ c.loop-i.invariant (omega (arith, c.from.ensures, c.from-in-loop-i.ensures))

pub returns : goal.returns
unfolding pairs_of
returns c = items_all _ _ 8 _ (omega arith) c.loop-i-test.array_long c.loop-i.invariant ∙ ap pairs_of c.block_words-words.ensures
