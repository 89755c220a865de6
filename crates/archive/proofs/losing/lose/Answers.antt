use mathlib.Core.Path.{sym, ◌∙◌}
use Rattle.answer.proofs.RefusalLaws.{written, kept}
use Rattle.archive.specs.Calls.{archive_after}
use Rattle.archive.proofs.losing.lose.Goals as goal

pub empty_node-requires : goal.empty_node-requires
empty_node-requires c = sym c.lose_check.ensures ∙ c.in_ok-lose_check.was

pub returns-clause-output : goal.returns-clause-output
unfolding archive_after
returns-clause-output c =
    let a = c.lose_check.ensures in written _ a c.in_ok-lose_check.was c.empty_node.ensures

pub returns-in_err-lose_check-clause-output : goal.returns-in_err-lose_check-clause-output
unfolding archive_after
returns-in_err-lose_check-clause-output c =
    let a = c.lose_check.ensures in kept _ a c.in_err-lose_check.was
