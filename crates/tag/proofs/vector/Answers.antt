use Rattle.lists.proofs.ArrayLaws.{array_is}
use Rattle.answer.proofs.RefusalLaws.{written, kept}
use Rattle.tag.specs.Vector.{vector_out}
use Rattle.tag.proofs.VectorAnswerLaws.{vector_lengths, vector_tag, vector_drawn}
use Rattle.tag.proofs.vector.Goals as goal

pub unwrap-tag_key-requires : goal.unwrap-tag_key-requires
unwrap-tag_key-requires c = c.try_from.ensures.0 (vector_lengths _ _ _ _ _ _ c.vector_check.ensures c.in_ok-vector_check.was).0

pub unwrap-id-requires : goal.unwrap-id-requires
unwrap-id-requires c = c.try_from-2.ensures.0 (vector_lengths _ _ _ _ _ _ c.vector_check.ensures c.in_ok-vector_check.was).1

pub key_stream-requires : goal.key_stream-requires
key_stream-requires c = vector_tag _ _ _ _ _ _ c.vector_check.ensures c.in_ok-vector_check.was

pub returns-clause-output : goal.returns-clause-output
unfolding vector_out
returns-clause-output c =
    let a = c.vector_check.ensures in
    let done = c.in_ok-vector_check.was in
    let key = array_is _ _ _ _ c.try_from.ensures.1 c.unwrap-tag_key.ensures in
    let id = array_is _ _ _ _ c.try_from-2.ensures.1 c.unwrap-id.ensures in
    written _ a done (vector_drawn _ _ _ _ _ _ a done _ (rw (← key, ← id) c.key_stream.ensures) c.draw_into.ensures)

pub returns-in_err-vector_check-clause-output : goal.returns-in_err-vector_check-clause-output
unfolding vector_out
returns-in_err-vector_check-clause-output c = kept _ c.vector_check.ensures c.in_err-vector_check.was
