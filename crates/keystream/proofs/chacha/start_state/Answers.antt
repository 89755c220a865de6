use Rattle.keystream.specs.ChaCha.{start}
use Rattle.keystream.proofs.chacha.start_state.Goals as goal

pub returns : goal.returns
unfolding start
returns c =
    rw (
      c.word_at-11.ensures,
      c.word_at-10.ensures,
      c.word_at-9.ensures,
      c.word_at-8.ensures,
      c.word_at-7.ensures,
      c.word_at-6.ensures,
      c.word_at-5.ensures,
      c.word_at-4.ensures,
      c.word_at-3.ensures,
      c.word_at-2.ensures,
      c.word_at.ensures,
    )
