use mathlib.Core.Path.{sym, ap, ◌∙◌}
use Rattle.std.proofs.lemmas.Result.{err_from_is_err_and}
use Rattle.answer.specs.Answer.{Err}
use Rattle.audit.proofs.JudgeLaws.{verdict_refused}
use Rattle.audit.proofs.judge.verdict.Goals as goal

pub judged-requires : goal.judged-requires
judged-requires c = sym c.verdict_check.ensures ∙ c.in_ok-verdict_check.was

pub returns-in_err-verdict_check : goal.returns-in_err-verdict_check
returns-in_err-verdict_check c =
    let w = err_from_is_err_and _ c.from_residual.ensures.1 in
    w.1 ∙ ap Err w.2 ∙ verdict_refused _ _ _ _ _ _ (sym c.verdict_check.ensures ∙ c.in_err-verdict_check.was)
