use mathlib.Core.Path.{sym, ◌∙◌}
use Rattle.answer.proofs.RefusalLaws.{written, kept}
use Rattle.archive.specs.Told.{rows_out}
use Rattle.gathering.proofs.telling.rows.Goals as goal

pub write_rows-requires : goal.write_rows-requires
write_rows-requires c = sym c.rows_check.ensures ∙ c.in_ok-rows_check.was

pub returns-clause-output : goal.returns-clause-output
unfolding rows_out
returns-clause-output c =
    let a = c.rows_check.ensures in written _ a c.in_ok-rows_check.was c.write_rows.ensures

pub returns-in_err-rows_check-clause-output : goal.returns-in_err-rows_check-clause-output
unfolding rows_out
returns-in_err-rows_check-clause-output c =
    let a = c.rows_check.ensures in kept _ a c.in_err-rows_check.was
