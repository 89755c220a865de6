use Rattle.answer.proofs.RefusalLaws.{written, kept}
use Rattle.archive.proofs.OpenLaws.{open_lengths}
use Rattle.archive.specs.Open.{open_out}
use Rattle.archive.proofs.opening.open.Goals as goal

pub write_new-requires : goal.write_new-requires
write_new-requires c = open_lengths _ _ _ _ c.open_check.ensures c.in_ok-open_check.was

pub returns-clause-output : goal.returns-clause-output
unfolding open_out
returns-clause-output c =
    let a = c.open_check.ensures in written _ a c.in_ok-open_check.was c.write_new.ensures

pub returns-in_err-open_check-clause-output : goal.returns-in_err-open_check-clause-output
unfolding open_out
returns-in_err-open_check-clause-output c =
    let a = c.open_check.ensures in kept _ a c.in_err-open_check.was
