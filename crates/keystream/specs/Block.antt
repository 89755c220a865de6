-- The operation Block (SCHEME, Operations). Refuses 2.
use Rattle.std.specs.Prelude.{ℕ, List, length}
use Rattle.answer.specs.Answer.{Outcome, done}
use Rattle.answer.specs.declared.Refusal.TheVariants.{Length}
use Rattle.answer.specs.Refusals.{refuse, afterwards, differs}
use Rattle.keystream.specs.ChaCha.{block_of}
use Rattle.sizes.specs.Lengths.{key_length, nonce_length, stream_block_length}

unfoldable pub block_answer : (key nonce out : List ℕ) → Outcome
block_answer key nonce out =
    refuse (differs (length key) key_length) Length
    (refuse (differs (length nonce) nonce_length) Length
    (refuse (differs (length out) stream_block_length) Length
    done))

unfoldable pub block_out : (key : List ℕ) (counter : ℕ) (nonce out : List ℕ) → List ℕ
block_out key counter nonce out = afterwards (block_answer key nonce out) out (block_of key counter nonce)
