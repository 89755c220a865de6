use Rattle.std.proofs.Common.{◌≡◌}
use Rattle.lists.specs.Lists.{at, put}
use Rattle.keystream.specs.ChaCha.{add32}
use Rattle.keystream.proofs.chacha.block_words.Given as goal

abbrev pub invariant-loop-i : goal.invariant-loop-i
invariant-loop-i l = l.word-items ≡ put l.i 0 (λ k. add32 (at l.initial.word-items k) (at l.w k)) l.initial.word-items
