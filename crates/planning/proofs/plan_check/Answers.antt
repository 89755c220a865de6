use mathlib.Core.Path.{sym, ◌∙◌}
use native.Mathlib.Nat.{mul-le-mul}
use native.Mathlib.Omega.{arith}
use Rattle.answer.proofs.RefusalLaws.{refused, passed, listed, found}
use Rattle.sizes.proofs.SizeLaws.{not_sizes_outside}
use Rattle.archive.proofs.GoodArchiveLaws.{good_length}
use Rattle.archive.proofs.CallLaws.{read_sizes, read_length}
use Rattle.coding.proofs.RepairLaws.{blocks_low, counts}
use Rattle.planning.proofs.CheckLaws.{answered}
use Rattle.planning.proofs.plan_check.Goals as goal

pub returns-then-bad_archive : goal.returns-then-bad_archive
returns-then-bad_archive c = sym (refused _ _ (sym c.bad_archive.ensures ∙ c.if-bad_archive.true))

pub sizes_in-z-requires : goal.sizes_in-z-requires
sizes_in-z-requires c = omega (arith, good_length _ (sym c.bad_archive.ensures ∙ c.if-bad_archive.false))

pub returns-then-outside : goal.returns-then-outside
returns-then-outside c =
    let a = c.args in
    answered a.archive.now a.helpers.now a.q a.gammas.now a.rows.now a.thetas.now c.sizes_in-z.ensures (sym c.bad_archive.ensures ∙ c.if-bad_archive.false)
    (sym (refused _ _ (found c.outside.ensures c.outside-2.ensures c.if-outside.true)))

pub overflow_mul-count : goal.overflow_mul-count
overflow_mul-count c =
    let w = counts _ _ c.outside.ensures c.outside-2.ensures c.if-outside.false in
    omega (arith, blocks_low _ _ w.0 w.1)

pub overflow_mul-count-2 : goal.overflow_mul-count-2
overflow_mul-count-2 c =
    let w = counts _ _ c.outside.ensures c.outside-2.ensures c.if-outside.false in
    let R = read_sizes _ c.sizes_in-z.ensures (sym c.bad_archive.ensures ∙ c.if-bad_archive.false) in
    omega (arith, mul-le-mul {n₂ = 40} {m₂ = 8} (blocks_low _ _ w.0 w.1) R.places_high)

pub overflow_mul-z : goal.overflow_mul-z
overflow_mul-z c =
    let R = read_sizes _ c.sizes_in-z.ensures (sym c.bad_archive.ensures ∙ c.if-bad_archive.false) in
    omega (arith, mul-le-mul {n₂ = 8} {m₂ = 16} R.places_high R.m_high)

pub returns-then-gammas-count : goal.returns-then-gammas-count
returns-then-gammas-count c =
    let a = c.args in
    answered a.archive.now a.helpers.now a.q a.gammas.now a.rows.now a.thetas.now c.sizes_in-z.ensures (sym c.bad_archive.ensures ∙ c.if-bad_archive.false)
    (sym (passed _ _ (found c.outside.ensures c.outside-2.ensures c.if-outside.false)
    ∙ refused _ _ (listed _ _ c.if-gammas-count.true)))

pub returns-then-any_missing : goal.returns-then-any_missing
returns-then-any_missing c =
    let a = c.args in
    answered a.archive.now a.helpers.now a.q a.gammas.now a.rows.now a.thetas.now c.sizes_in-z.ensures (sym c.bad_archive.ensures ∙ c.if-bad_archive.false)
    (sym (passed _ _ (found c.outside.ensures c.outside-2.ensures c.if-outside.false)
    ∙ passed _ _ (listed _ _ c.if-gammas-count.false) ∙ refused _ _ (sym c.any_missing.ensures ∙ c.if-any_missing.true)))

pub any_helper_empty-requires : goal.any_helper_empty-requires
any_helper_empty-requires c =
    let good = sym c.bad_archive.ensures ∙ c.if-bad_archive.false in (
      not_sizes_outside _ (read_sizes _ c.sizes_in-z.ensures good),
      omega (arith, read_length _ c.sizes_in-z.ensures good),
      sym c.any_missing.ensures ∙ c.if-any_missing.false,
    )

pub returns-then-any_helper_empty : goal.returns-then-any_helper_empty
returns-then-any_helper_empty c =
    let a = c.args in
    answered a.archive.now a.helpers.now a.q a.gammas.now a.rows.now a.thetas.now c.sizes_in-z.ensures (sym c.bad_archive.ensures ∙ c.if-bad_archive.false)
    (sym (passed _ _ (found c.outside.ensures c.outside-2.ensures c.if-outside.false)
    ∙ passed _ _ (listed _ _ c.if-gammas-count.false) ∙ passed _ _ (sym c.any_missing.ensures ∙ c.if-any_missing.false)
    ∙ refused _ _ (sym c.any_helper_empty.ensures ∙ c.if-any_helper_empty.true)))

pub returns : goal.returns
returns c =
    let a = c.args in
    answered a.archive.now a.helpers.now a.q a.gammas.now a.rows.now a.thetas.now c.sizes_in-z.ensures (sym c.bad_archive.ensures ∙ c.if-bad_archive.false)
    (sym (passed _ _ (found c.outside.ensures c.outside-2.ensures c.if-outside.false)
    ∙ passed _ _ (listed _ _ c.if-gammas-count.false) ∙ passed _ _ (sym c.any_missing.ensures ∙ c.if-any_missing.false)
    ∙ passed _ _ (sym c.any_helper_empty.ensures ∙ c.if-any_helper_empty.false)))
