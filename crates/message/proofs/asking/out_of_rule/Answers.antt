use mathlib.Core.Path.{sym, ap, ap₂, ◌∙◌}
use mathlib.Core.Bool.{◌||◌}
use lib.Dec.{ltb}
use Rattle.message.proofs.ChallengeRuleLaws.{count_outside, tests_apart}
use Rattle.message.proofs.asking.out_of_rule.Goals as goal

pub returns-then-outside : goal.returns-then-outside
returns-then-outside c = sym (count_outside _ _ (sym c.outside.ensures ∙ c.if-outside.true))

pub returns : goal.returns
returns c =
    ap₂ ◌||◌ (ap (λ (b : _). ltb 5 c.args.node || b) c.any_high.ensures) c.any_fall.ensures
    ∙ tests_apart _ _ (sym c.outside.ensures ∙ c.if-outside.false)
