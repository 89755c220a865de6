use mathlib.Core.Path.{sym, ap, ◌∙◌}
use Rattle.std.proofs.lemmas.Result.{err_from_is_err_and}
use Rattle.answer.specs.Answer.{Err}
use Rattle.planning.proofs.CheckLaws.{refused_before}
use Rattle.planning.proofs.plan.Goals as goal

pub plan_thetas-requires : goal.plan_thetas-requires
plan_thetas-requires c = sym c.plan_check.ensures ∙ c.in_ok-plan_check.was

pub returns-in_err-plan_check : goal.returns-in_err-plan_check
returns-in_err-plan_check c =
    let a = c.args in
    let w = err_from_is_err_and _ c.from_residual.ensures.1 in
    let refusal = w.1 ∙ ap Err w.2 in
    refused_before a.archive.now a.helpers.now a.q a.gammas.now a.rows.now a.thetas.now
    (refusal ∙ sym c.in_err-plan_check.was ∙ c.plan_check.ensures) refusal
