use Rattle.std.proofs.Common.{arith}
use Rattle.keystream.specs.ChaCha.{word_at}
use Rattle.keystream.proofs.chacha.word_at.Goals as goal

pub returns : goal.returns
unfolding word_at
returns c = omega arith
