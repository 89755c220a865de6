use mathlib.Core.Path.{refl, sym, ◌∙◌}
use mathlib.Core.List.{[], ◌∷◌}
use native.Mathlib.Nat.{mul-le-mul}
use native.Mathlib.Omega.{arith}
use borrow.Author.Tests.{leb-false}
use lib.Dec.{leb}
use Rattle.lists.proofs.AnyLaws.{none_at, or_false}
use Rattle.answer.proofs.RefusalLaws.{refused, passed, listed, found}
use Rattle.sizes.specs.Lengths.{record_most}
use Rattle.sizes.proofs.SizeLaws.{not_sizes_outside}
use Rattle.archive.specs.Calls.{answer_for, archive_answer}
use Rattle.archive.proofs.GoodArchiveLaws.{good_length}
use Rattle.archive.proofs.CallLaws.{read_sizes, read_length, answered}
use Rattle.coding.proofs.RepairLaws.{blocks_low, counts}
use Rattle.coding.proofs.repairing.repair_check.Goals as goal

pub returns-then-bad_archive : goal.returns-then-bad_archive
unfolding archive_answer
returns-then-bad_archive c = sym (refused _ _ (cc))

pub sizes_in-z-requires : goal.sizes_in-z-requires
sizes_in-z-requires c = omega (arith, good_length _ (sym c.bad_archive.ensures ∙ c.if-bad_archive.false))

pub returns-then-outside : goal.returns-then-outside
unfolding answer_for
returns-then-outside c = answered _ c.sizes_in-z.ensures (cc) _ (sym (refused _ _ (listed _ _ (cc))))

pub overflow_mul-count : goal.overflow_mul-count
overflow_mul-count c =
    let w = counts _ _ c.outside.ensures c.outside-2.ensures c.if-outside.false in
    omega (arith, blocks_low _ _ w.0 w.1)

pub overflow_mul-count-2 : goal.overflow_mul-count-2
overflow_mul-count-2 c =
    let w = counts _ _ c.outside.ensures c.outside-2.ensures c.if-outside.false in
    let R = read_sizes _ c.sizes_in-z.ensures (cc) in
    omega (arith, mul-le-mul {n₂ = 40} {m₂ = 8} (blocks_low _ _ w.0 w.1) R.places_high)

pub overflow_mul-p : goal.overflow_mul-p
overflow_mul-p c = (let w = counts _ _ c.outside.ensures c.outside-2.ensures c.if-outside.false in
    omega (arith, blocks_low _ _ w.0 w.1))

pub record_length-requires : goal.record_length-requires
record_length-requires c = not_sizes_outside _ (read_sizes _ c.sizes_in-z.ensures (cc))

pub overflow_mul-p-2 : goal.overflow_mul-p-2
overflow_mul-p-2 c =
    let w = counts _ _ c.outside.ensures c.outside-2.ensures c.if-outside.false in
    omega (arith, mul-le-mul {n₂ = 40} {m₂ = record_most} (blocks_low _ _ w.0 w.1) c.record_length.ensures.1)

pub returns-then-gammas-count : goal.returns-then-gammas-count
unfolding answer_for
returns-then-gammas-count c = answered _ c.sizes_in-z.ensures (cc) _ (sym (passed _ _ (listed _ _ (cc)) ∙ refused _ _ (listed _ _ (cc))))

pub returns-then-z-target : goal.returns-then-z-target
unfolding answer_for
returns-then-z-target c = answered _ c.sizes_in-z.ensures (cc) _ (sym (passed _ _ (listed _ _ (cc)) ∙ passed _ _ (listed _ _ (cc)) ∙ refused _ _ (listed _ _ (cc))))

pub any_place-requires : goal.any_place-requires
any_place-requires c =
    let read = c.sizes_in-z.ensures in
    let target = leb-false _ _ (none_at _ 0 (listed _ (_ ∷ []) c.if-z-target.false)) in
    (not_sizes_outside _ (read_sizes _ read (cc)), target, omega (arith, read_length _ read (cc)))

pub returns-then-any_place : goal.returns-then-any_place
unfolding answer_for
returns-then-any_place c =
    answered _ c.sizes_in-z.ensures (cc) _
    (sym (passed _ _ (listed _ _ (cc)) ∙ passed _ _ (listed _ _ (cc)) ∙ passed _ _ (listed _ _ (cc)) ∙ refused _ _ (sym c.any_place.ensures ∙ c.if-any_place.true)))

pub any_helper_empty-requires : goal.any_helper_empty-requires
any_helper_empty-requires c =
    let read = c.sizes_in-z.ensures in
    let present = sym c.any_missing.ensures ∙ (or_false (leb c.sizes_in-z.result.nodes c.args.target) c.any_missing.result c.if-z-target.false).1 in
    (not_sizes_outside _ (read_sizes _ read (cc)), omega (arith, read_length _ read (cc)), present)

pub returns-then-any_helper_empty : goal.returns-then-any_helper_empty
unfolding answer_for
returns-then-any_helper_empty c =
    answered _ c.sizes_in-z.ensures (sym c.bad_archive.ensures ∙ c.if-bad_archive.false) _
    (sym (passed _ _ (found c.outside.ensures c.outside-2.ensures c.if-outside.false)
    ∙ passed _ _ (rw (← c.record_length.ensures.0) (listed _ _ c.if-gammas-count.false))
    ∙ passed _ _ (found refl c.any_missing.ensures c.if-z-target.false) ∙ passed _ _ (sym c.any_place.ensures ∙ c.if-any_place.false)
    ∙ refused _ _ (sym c.any_helper_empty.ensures ∙ c.if-any_helper_empty.true)))

pub returns : goal.returns
unfolding answer_for
returns c =
    answered _ c.sizes_in-z.ensures (sym c.bad_archive.ensures ∙ c.if-bad_archive.false) _
    (sym (passed _ _ (found c.outside.ensures c.outside-2.ensures c.if-outside.false)
    ∙ passed _ _ (rw (← c.record_length.ensures.0) (listed _ _ c.if-gammas-count.false))
    ∙ passed _ _ (found refl c.any_missing.ensures c.if-z-target.false) ∙ passed _ _ (sym c.any_place.ensures ∙ c.if-any_place.false)
    ∙ passed _ _ (sym c.any_helper_empty.ensures ∙ c.if-any_helper_empty.false)))
