use mathlib.Core.Path.{sym, ◌∙◌}
use Rattle.answer.proofs.RefusalLaws.{written, kept}
use Rattle.archive.specs.Calls.{archive_after, scratch_after}
use Rattle.coding.proofs.repairing.repair.Goals as goal

pub fill_target-requires : goal.fill_target-requires
fill_target-requires c = sym c.repair_check.ensures ∙ c.in_ok-repair_check.was

pub returns-clause-output : goal.returns-clause-output
unfolding archive_after scratch_after
returns-clause-output c =
    let s = c.args in
    let a = c.repair_check.ensures in
    let w = c.fill_target.ensures in
    let done = c.in_ok-repair_check.was in written _ a done w.output

pub returns-clause-blocks : goal.returns-clause-blocks
unfolding archive_after scratch_after
returns-clause-blocks c =
    let s = c.args in
    let a = c.repair_check.ensures in
    let w = c.fill_target.ensures in
    let done = c.in_ok-repair_check.was in written _ a done w.blocks

pub returns-in_err-repair_check-clause-output : goal.returns-in_err-repair_check-clause-output
unfolding archive_after scratch_after
returns-in_err-repair_check-clause-output c =
    let s = c.args in
    let a = c.repair_check.ensures in
    let refusal = c.in_err-repair_check.was in kept _ a refusal

pub returns-in_err-repair_check-clause-blocks : goal.returns-in_err-repair_check-clause-blocks
unfolding archive_after scratch_after
returns-in_err-repair_check-clause-blocks c =
    let s = c.args in
    let a = c.repair_check.ensures in
    let refusal = c.in_err-repair_check.was in kept _ a refusal
