use Rattle.std.proofs.Common.{◌≡◌, ◌∙◌, arith}
use Rattle.lists.proofs.PutLaws.{put_none}
use Rattle.keystream.proofs.ChaChaLaws.{word_more, words_stored}
use Rattle.keystream.proofs.chacha.spread.Goals as goal

pub loop-k-init : goal.loop-k-init
loop-k-init c = put_none _ _ _

pub loop-k-preserved : goal.loop-k-preserved
loop-k-preserved c =
    word_more c.args.w c.args.out.now c.loop-k.k c.loop-k-test.true c.requires c.loop-k.invariant (omega arith) (omega arith)
    (c.copy_from_slice.ensures.after ∙ c.to_le_bytes.ensures)

pub returns : goal.returns
returns c = let e : c.loop-k.k ≡ 16 = omega arith in words_stored _ _ c.requires (rw e at c.loop-k.invariant)
