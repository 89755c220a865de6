use mathlib.Core.Path.{sym, ◌∙◌}
use Rattle.answer.proofs.RefusalLaws.{written, kept}
use Rattle.archive.specs.Prove.{prove_out}
use Rattle.proving.proofs.prove.Goals as goal

pub write_response-requires : goal.write_response-requires
write_response-requires c = sym c.prove_check.ensures ∙ c.in_ok-prove_check.was

pub returns-clause-output : goal.returns-clause-output
unfolding prove_out
returns-clause-output c =
    let a = c.prove_check.ensures in written _ a c.in_ok-prove_check.was c.write_response.ensures

pub returns-in_err-prove_check-clause-output : goal.returns-in_err-prove_check-clause-output
unfolding prove_out
returns-in_err-prove_check-clause-output c =
    let a = c.prove_check.ensures in kept _ a c.in_err-prove_check.was
