use mathlib.Core.Path.{sym, ◌∙◌}
use native.Mathlib.Omega.{arith}
use Rattle.answer.proofs.RefusalLaws.{inside}
use Rattle.message.proofs.ChallengeRuleLaws.{too_short, count_other, length_other, tests_left}
use Rattle.message.proofs.asked.malformed.Goals as goal

pub returns-then-message-lt2 : goal.returns-then-message-lt2
returns-then-message-lt2 c = sym (too_short _ c.if-message-lt2.true)

pub returns-then-outside : goal.returns-then-outside
returns-then-outside c = sym (count_other _ _ c.read_field-count.ensures (sym c.outside.ensures ∙ c.if-outside.true))

pub message_length-length-requires : goal.message_length-length-requires
message_length-length-requires c = (inside 1 8 _ (sym c.outside.ensures ∙ c.if-outside.false)).1

pub returns-then-message-length : goal.returns-then-message-length
returns-then-message-length c = sym (length_other _ _ c.read_field-count.ensures (λ e. c.if-message-length.true (e ∙ sym c.message_length-length.ensures)))

pub overflow_mul-used : goal.overflow_mul-used
overflow_mul-used c = omega (arith, inside 1 8 _ (sym c.outside.ensures ∙ c.if-outside.false))

pub any_fall_in-requires : goal.any_fall_in-requires
any_fall_in-requires c = let r = inside 1 8 _ (sym c.outside.ensures ∙ c.if-outside.false) in (r.1, omega (arith, c.message_length-length.ensures))

pub overflow_mul-length : goal.overflow_mul-length
overflow_mul-length c = omega (arith, inside 1 8 _ (sym c.outside.ensures ∙ c.if-outside.false))

pub returns : goal.returns
returns c =
    let r = inside 1 8 _ (sym c.outside.ensures ∙ c.if-outside.false) in
    tests_left _ _ c.read_field-count.ensures c.read_field.ensures c.read_field-2.ensures r.0 r.1 c.message_length-length.ensures c.if-message-length.false
    c.any_fall_in.ensures c.read_field-3.ensures
