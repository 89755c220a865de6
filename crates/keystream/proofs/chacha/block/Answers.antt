use Rattle.std.proofs.Common.{sym, ◌∙◌}
use Rattle.answer.proofs.RefusalLaws.{refused, passed, differs_same, differs_other, after_done, after_refused}
use Rattle.keystream.proofs.ChaChaLaws.{block_made}
use Rattle.keystream.specs.Block.{block_answer, block_out}
use Rattle.keystream.proofs.chacha.block.Goals as goal

pub returns-then-key-ne-KEY_LENGTH : goal.returns-then-key-ne-KEY_LENGTH
unfolding block_answer block_out
returns-then-key-ne-KEY_LENGTH c = let e = refused _ _ (differs_other c.if-key-ne-KEY_LENGTH.true) in record {
  answer = sym e;
  output = sym (after_refused _ _ e);
}

pub returns-then-nonce-ne-NONCE_LENGTH : goal.returns-then-nonce-ne-NONCE_LENGTH
unfolding block_answer block_out
returns-then-nonce-ne-NONCE_LENGTH c = let e = passed _ _ (differs_same c.if-key-ne-KEY_LENGTH.false) ∙ refused _ _ (differs_other c.if-nonce-ne-NONCE_LENGTH.true) in record {
  answer = sym e;
  output = sym (after_refused _ _ e);
}

pub returns-then-out-ne-STREAM_BLOCK_LENGTH : goal.returns-then-out-ne-STREAM_BLOCK_LENGTH
unfolding block_answer block_out
returns-then-out-ne-STREAM_BLOCK_LENGTH c =
    let e =
    passed _ _ (differs_same c.if-key-ne-KEY_LENGTH.false) ∙ passed _ _ (differs_same c.if-nonce-ne-NONCE_LENGTH.false) ∙ refused _ _ (differs_other c.if-out-ne-STREAM_BLOCK_LENGTH.true) in
    record {
      answer = sym e;
      output = sym (after_refused _ _ e);
    }

pub returns : goal.returns
unfolding block_answer block_out
returns c =
    let e = passed _ _ (differs_same c.if-key-ne-KEY_LENGTH.false) ∙ passed _ _ (differs_same c.if-nonce-ne-NONCE_LENGTH.false) ∙ passed _ _ (differs_same c.if-out-ne-STREAM_BLOCK_LENGTH.false) in
    record {
      answer = sym e;
      output = block_made _ _ _ c.start_state.ensures c.block_words.ensures c.spread.ensures ∙ sym (after_done _ _ e);
    }
