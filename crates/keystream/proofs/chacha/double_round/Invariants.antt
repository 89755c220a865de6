use Rattle.std.proofs.Common.{◌≡◌}
use Rattle.keystream.specs.ChaCha.{quarters_to}
use Rattle.keystream.proofs.chacha.double_round.Given as goal

abbrev pub invariant-loop-q : goal.invariant-loop-q
invariant-loop-q l = l.t ≡ quarters_to l.q-index l.initial.t
