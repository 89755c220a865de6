use mathlib.Core.Path.{sym, ◌∙◌}
use Rattle.answer.proofs.RefusalLaws.{written, kept}
use Rattle.archive.specs.Gather.{gather_after}
use Rattle.gathering.proofs.copying.gather.Goals as goal

pub copy_node-requires : goal.copy_node-requires
copy_node-requires c = sym c.gather_check.ensures ∙ c.in_ok-gather_check.was

pub returns-clause-output : goal.returns-clause-output
unfolding gather_after
returns-clause-output c =
    let a = c.gather_check.ensures in written _ a c.in_ok-gather_check.was c.copy_node.ensures

pub returns-in_err-gather_check-clause-output : goal.returns-in_err-gather_check-clause-output
unfolding gather_after
returns-in_err-gather_check-clause-output c =
    let a = c.gather_check.ensures in kept _ a c.in_err-gather_check.was
