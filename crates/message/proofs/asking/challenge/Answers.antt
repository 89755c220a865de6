use Rattle.answer.proofs.RefusalLaws.{written, kept}
use Rattle.message.proofs.ChallengeWriteLaws.{challenge_lengths}
use Rattle.message.specs.Challenge.{challenge_out}
use Rattle.message.proofs.asking.challenge.Goals as goal

pub write_message-requires : goal.write_message-requires
write_message-requires c = challenge_lengths _ _ c.challenge_check.ensures c.in_ok-challenge_check.was

pub returns-clause-output : goal.returns-clause-output
unfolding challenge_out
returns-clause-output c =
    let a = c.challenge_check.ensures in written _ a c.in_ok-challenge_check.was c.write_message.ensures

pub returns-in_err-challenge_check-clause-output : goal.returns-in_err-challenge_check-clause-output
unfolding challenge_out
returns-in_err-challenge_check-clause-output c =
    let a = c.challenge_check.ensures in kept _ a c.in_err-challenge_check.was
