use mir.Syntax.{w8}
use borrow.Author.Rules.{rules, elem_Fits}
use mathlib.Core.Path.{◌≡◌, refl, subst}
use native.Mathlib.Omega.{arith}
use lib.ListN.{length}
use Rattle.sizes.proofs.SizeLaws.{not_sizes_outside}
use Rattle.linear.proofs.ArrayLaws.{cell_bytes}
use Rattle.coding.proofs.RepairLaws.{blocks_low}
use Rattle.planning.specs.PrivatePlan.{Reaching}
use Rattle.planning.proofs.CheckLaws.{plannable}
use Rattle.planning.proofs.AnswerLaws.{standing, reduced, refuses, plans}
use Rattle.planning.proofs.plan_thetas.Goals as goal

pub sizes_in-z-requires : goal.sizes_in-z-requires
sizes_in-z-requires c =
    let a = c.args in
    omega (arith, (plannable a.archive.now a.helpers.now a.q a.gammas.now a.rows.now a.thetas.now refl c.requires).long)

pub overflow_mul-count : goal.overflow_mul-count
overflow_mul-count c =
    let a = c.args in
    let ok = plannable a.archive.now a.helpers.now a.q a.gammas.now a.rows.now a.thetas.now c.sizes_in-z.ensures c.requires in
    omega (arith, blocks_low _ _ ok.helpers_high ok.q_high)

pub invariant_of-records : goal.invariant_of-records
invariant_of-records c =
    let a = c.args in
    let ok = plannable a.archive.now a.helpers.now a.q a.gammas.now a.rows.now a.thetas.now c.sizes_in-z.ensures c.requires in
    record { ranges = not_sizes_outside _ ok.sizes; long = ok.long; all_bytes = λ i l. (c.type_inv.archive i).fits }

pub repair_rows-sent-requires : goal.repair_rows-sent-requires
repair_rows-sent-requires c =
    let a = c.args in
    let ok = plannable a.archive.now a.helpers.now a.q a.gammas.now a.rows.now a.thetas.now c.sizes_in-z.ensures c.requires in (
      ok.q_low,
      blocks_low _ _ ok.helpers_high ok.q_high,
      ok.present,
      ok.gammas_length,
    )

pub invariant_of-wanted : goal.invariant_of-wanted
invariant_of-wanted c =
    let a = c.args in
    let ok = plannable a.archive.now a.helpers.now a.q a.gammas.now a.rows.now a.thetas.now c.sizes_in-z.ensures c.requires in
    record { width = ok.sizes.m_high; few = ok.sizes.places_high; long = ok.rows_length }

pub invariant_of-all-clause-standing : goal.invariant_of-all-clause-standing
invariant_of-all-clause-standing c =
    let a = c.args in
    let ok = plannable a.archive.now a.helpers.now a.q a.gammas.now a.rows.now a.thetas.now c.sizes_in-z.ensures c.requires in
    let long : length c.repair_rows-sent.result ≡ 640 = search rules in
    standing _ _ c.repair_rows-sent.result (blocks_low _ _ ok.helpers_high ok.q_high) ok.sizes.m_high long

pub invariant_of-all-clause-all_bytes : goal.invariant_of-all-clause-all_bytes
invariant_of-all-clause-all_bytes c =
    let sent = c.repair_rows-sent in
    λ i h. (elem_Fits w8 w8 sent.result sent.type_inv.0 i sent.type_inv.1.1 tt).fits

pub rows_of-taken-requires : goal.rows_of-taken-requires
rows_of-taken-requires c =
    let w = c.choose-c.ensures in
    (w.choice.fits, λ t h. omega (arith, w.choice.below t h, w.there))

pub reduce-reduced-requires : goal.reduce-reduced-requires
reduce-reduced-requires c =
    let a = c.args in
    let ok = plannable a.archive.now a.helpers.now a.q a.gammas.now a.rows.now a.thetas.now c.sizes_in-z.ensures c.requires in
    (ok.sizes.m_high, omega (arith, c.choose-c.ensures.choice.fits, ok.sizes.m_high))

pub returns-then-not-reached : goal.returns-then-not-reached
returns-then-not-reached c =
    let a = c.args in
    let z = c.sizes_in-z in
    let ok = plannable a.archive.now a.helpers.now a.q a.gammas.now a.rows.now a.thetas.now z.ensures c.requires in
    let few = blocks_low _ _ ok.helpers_high ok.q_high in
    let sent = c.repair_rows-sent in
    let choose = c.choose-c in
    let reduce = c.reduce-reduced in
    let R = reduced z.result a.archive.now a.helpers.now a.q a.gammas.now sent.result few sent.ensures choose.result choose.ensures
    c.rows_of-taken.result c.turned.result ok.sizes.m_high c.rows_of-taken.ensures c.turned.ensures reduce.ensures in
    refuses z.result a.archive.now a.helpers.now a.q a.gammas.now sent.result few sent.ensures choose.result choose.ensures
    a.rows.now a.thetas.now _ _ R z.ensures c.requires (cell_bytes reduce.result.combinations reduce.type_inv.1.1.1.0.0 reduce.type_inv.1.1.1.0.1.1)
    (subst (Reaching _ _ _ _ _) c.if-not-reached.true c.reached.ensures)

pub write_thetas-requires : goal.write_thetas-requires
write_thetas-requires c =
    let a = c.args in
    let ok = plannable a.archive.now a.helpers.now a.q a.gammas.now a.rows.now a.thetas.now c.sizes_in-z.ensures c.requires in
    (omega (arith, c.choose-c.ensures.choice.fits, ok.sizes.m_high), blocks_low _ _ ok.helpers_high ok.q_high, ok.thetas_length)

pub returns : goal.returns
returns c =
    let a = c.args in
    let z = c.sizes_in-z in
    let ok = plannable a.archive.now a.helpers.now a.q a.gammas.now a.rows.now a.thetas.now z.ensures c.requires in
    let few = blocks_low _ _ ok.helpers_high ok.q_high in
    let sent = c.repair_rows-sent in
    let choose = c.choose-c in
    let reduce = c.reduce-reduced in
    let R = reduced z.result a.archive.now a.helpers.now a.q a.gammas.now sent.result few sent.ensures choose.result choose.ensures
    c.rows_of-taken.result c.turned.result ok.sizes.m_high c.rows_of-taken.ensures c.turned.ensures reduce.ensures in
    plans z.result a.archive.now a.helpers.now a.q a.gammas.now sent.result few sent.ensures choose.result choose.ensures
    a.rows.now a.thetas.now _ _ R z.ensures c.requires ok (λ i. (c.type_inv.rows i).fits)
    (subst (Reaching _ _ _ _ _) c.if-not-reached.false c.reached.ensures)
    c.write_thetas.ensures
