use Rattle.std.proofs.Common.{◌≡◌, ◌*◌, length, refl, ◌∙◌, arith, rules}
use Rattle.lists.proofs.PutLaws.{put_none, put_all}
use Rattle.keystream.proofs.FillLaws.{state_none, state_more, block_more, blocks_done}
use Rattle.keystream.proofs.chacha.fill.Goals as goal

pub loop-j-init : goal.loop-j-init
loop-j-init c = (state_none _ _ c.start_state-w.ensures, put_none _ _ _)

pub loop-j-preserved : goal.loop-j-preserved
loop-j-preserved c =
    let i = c.loop-j.invariant in (
      state_more _ _ (search rules) i.0 c.wrapping_add_u32.ensures.value,
      block_more _ _ _ (omega arith) i.0 c.block_words.ensures i.1 (omega arith) (omega arith) c.spread.ensures,
    )

pub returns : goal.returns
returns c =
    let d = c.args.out.now in
    let e : 64 * c.loop-j.j ≡ length d = omega (arith, c.requires) in
    blocks_done _ _ _ _ c.start_state-w.ensures (rw e at c.loop-j.invariant.1) ∙ put_all (length d) _ d refl
