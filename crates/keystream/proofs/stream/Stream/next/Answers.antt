use Rattle.std.proofs.Common.{refl}
use Rattle.keystream.proofs.DrawLaws.{drawn_is, next_block, next_number, same_number}
use Rattle.keystream.proofs.stream.Stream.next.Goals as goal
use Rattle.keystream.proofs.stream.Stream.next.Goals.{then-at-eq0-2, else-at-eq0-2}

pub returns-after-at-eq0-2 : goal.returns-after-at-eq0-2
returns-after-at-eq0-2 c =
    let i = c.if-at-eq0.true in
    drawn_is _
    (elim c.if-at-eq0-2.branch [
      | then-at-eq0-2 w ↦ next_block _ _ _ _ _ i w.if-at-eq0-2.true w.block_pairs-n.ensures w.wrapping_add_u32.ensures.value w.w-is w.c-is c.pair_at-cur.ensures
      | else-at-eq0-2 w ↦ next_number _ _ _ _ _ i w.if-at-eq0-2.false w.w-is w.c-is c.pair_at-cur.ensures
    ])

pub returns-else-at-eq0 : goal.returns-else-at-eq0
returns-else-at-eq0 c = drawn_is _ (same_number _ _ _ _ _ c.if-at-eq0.false refl refl refl)
