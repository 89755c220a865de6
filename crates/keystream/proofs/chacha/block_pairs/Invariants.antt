use Rattle.std.proofs.Common.{◌≡◌, ◌+◌, ◌*◌}
use Rattle.lists.specs.Lists.{at, put}
use Rattle.keystream.proofs.chacha.block_pairs.Given as goal

abbrev pub invariant-loop-i : goal.invariant-loop-i
invariant-loop-i l = l.pair-items ≡ put l.i 0 (λ k. at l.words (k * 2) + 4294967296 * at l.words (k * 2 + 1)) l.initial.pair-items
