use Prim.Native.Nat.{◌≤◌}
use mathlib.Core.Path.{◌≡◌}
use lib.ListN.{length}
use Rattle.vector.specs.Vectors.{added}
use Rattle.message.proofs.NamedLaws.{first_named}
use Rattle.message.proofs.asked.ChallengeMessage.add_named.Given as goal

abbrev pub invariant-loop-j : goal.invariant-loop-j
invariant-loop-j l =
    (l.j ≤ l.j-end) × (l.j-end ≡ length l.self.places) × (length l.out ≡ length l.initial.out)
    × (l.out ≡ added l.len 0 (first_named l.self l.u l.len l.j) l.initial.out)
