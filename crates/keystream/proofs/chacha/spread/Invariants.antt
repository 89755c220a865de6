use Rattle.std.proofs.Common.{◌≡◌, ◌*◌}
use Rattle.lists.specs.Lists.{at, put}
use Rattle.keystream.specs.ChaCha.{serialised}
use Rattle.keystream.proofs.chacha.spread.Given as goal

abbrev pub invariant-loop-k : goal.invariant-loop-k
invariant-loop-k l = l.out ≡ put (4 * l.k) 0 (at (serialised l.word-items)) l.initial.out
