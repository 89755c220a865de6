use mathlib.Core.Path.{sym, ◌∙◌}
use mathlib.Core.List.{[]}
use Rattle.answer.proofs.RefusalLaws.{refused, passed, differs_same, differs_other}
use Rattle.message.specs.Challenge.{challenge_for, challenge_answer}
use Rattle.message.proofs.ChallengeLaws.{in_rule}
use Rattle.message.proofs.asking.challenge_check.Goals as goal

pub returns-then-coefficients-places : goal.returns-then-coefficients-places
unfolding challenge_answer
returns-then-coefficients-places c = sym (refused _ _ (differs_other c.if-coefficients-places.true))

pub returns-then-out_of_rule : goal.returns-then-out_of_rule
unfolding challenge_answer
returns-then-out_of_rule c = sym (passed _ _ (differs_same c.if-coefficients-places.false) ∙ refused _ _ (cc))

pub message_length-requires : goal.message_length-requires
message_length-requires c = (in_rule (challenge_for _ _ []) (sym c.out_of_rule.ensures ∙ c.if-out_of_rule.false)).few

pub returns-then-message-message_length : goal.returns-then-message-message_length
unfolding challenge_answer
returns-then-message-message_length c =
    sym
    (passed _ _ (differs_same c.if-coefficients-places.false) ∙ passed _ _ (cc)
    ∙ refused _ _ (differs_other (λ e. c.if-message-message_length.true (e ∙ sym c.message_length.ensures))))

pub returns : goal.returns
unfolding challenge_answer
returns c =
    sym
    (passed _ _ (differs_same c.if-coefficients-places.false) ∙ passed _ _ (cc)
    ∙ passed _ _ (differs_same (c.if-message-message_length.false ∙ c.message_length.ensures)))
