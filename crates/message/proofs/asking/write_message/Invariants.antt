use lib.ListN.{length}
use Rattle.message.specs.Challenge.{challenge_length}
use Rattle.message.proofs.ChallengeWriteLaws.{ItemsIn}
use Rattle.message.proofs.asking.write_message.Given as goal

-- The loop has written the fields before item j. Assumes nothing.
abbrev pub invariant-loop-j : goal.invariant-loop-j
invariant-loop-j l =
    ItemsIn l.node l.places l.coefficients (challenge_length (length l.places)) l.j l.message
