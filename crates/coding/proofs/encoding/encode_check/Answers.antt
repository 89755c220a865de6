use mathlib.Core.Path.{sym, ◌∙◌}
use mathlib.Core.List.{[], ◌∷◌}
use native.Mathlib.Omega.{arith}
use Rattle.answer.proofs.RefusalLaws.{refused, passed, listed}
use Rattle.archive.specs.Calls.{answer_for, archive_answer}
use Rattle.sizes.proofs.PlaceLaws.{count_low, file_low}
use Rattle.archive.proofs.GoodArchiveLaws.{good_length}
use Rattle.archive.proofs.CallLaws.{read_sizes, read_length, answered}
use Rattle.coding.proofs.EncodeLaws.{place_in_lem}
use Rattle.coding.proofs.encoding.encode_check.Goals as goal

pub returns-then-bad_archive : goal.returns-then-bad_archive
unfolding archive_answer
returns-then-bad_archive c = sym (refused _ _ (cc))

pub sizes_in-z-requires : goal.sizes_in-z-requires
sizes_in-z-requires c = omega (arith, good_length _ (sym c.bad_archive.ensures ∙ c.if-bad_archive.false))

pub overflow_sub-z : goal.overflow_sub-z
overflow_sub-z c = omega (arith, (read_sizes _ c.sizes_in-z.ensures (cc)).n_low)

pub overflow_mul-z : goal.overflow_mul-z
overflow_mul-z c = omega (arith, file_low _ (read_sizes _ c.sizes_in-z.ensures (cc)))

pub overflow_mul-z-2 : goal.overflow_mul-z-2
overflow_mul-z-2 c = omega (arith, (read_sizes _ c.sizes_in-z.ensures (cc)).m_high)

pub returns-then-file-z : goal.returns-then-file-z
unfolding answer_for
returns-then-file-z c = answered _ c.sizes_in-z.ensures (cc) _ (sym (refused _ _ (listed _ _ (cc))))

pub returns-then-z-node : goal.returns-then-z-node
unfolding answer_for
returns-then-z-node c = answered _ c.sizes_in-z.ensures (cc) _ (sym (passed _ _ (listed _ _ (cc)) ∙ refused _ _ (listed _ _ (cc))))

pub overflow_add-node : goal.overflow_add-node
overflow_add-node c =
    let R = read_sizes _ c.sizes_in-z.ensures (cc) in
    omega (arith, place_in_lem _ R _ _ (listed _ (_ ∷ []) c.if-z-node.false), count_low _ R)

pub overflow_mul-node : goal.overflow_mul-node
overflow_mul-node c =
    let R = read_sizes _ c.sizes_in-z.ensures (cc) in
    omega (arith, place_in_lem _ R _ _ (listed _ (_ ∷ []) c.if-z-node.false), count_low _ R)

pub marked-requires : goal.marked-requires
marked-requires c =
    let read = c.sizes_in-z.ensures in
    let R = read_sizes _ read (cc) in
    (omega (arith, place_in_lem _ R _ _ (listed _ (_ ∷ []) c.if-z-node.false), count_low _ R), omega (arith, read_length _ read (cc)))

pub returns-then-marked : goal.returns-then-marked
unfolding answer_for
returns-then-marked c = answered _ c.sizes_in-z.ensures (cc) _ (sym (passed _ _ (listed _ _ (cc)) ∙ passed _ _ (listed _ _ (cc)) ∙ refused _ _ (cc)))

pub returns : goal.returns
unfolding answer_for
returns c = answered _ c.sizes_in-z.ensures (cc) _ (sym (passed _ _ (listed _ _ (cc)) ∙ passed _ _ (listed _ _ (cc)) ∙ passed _ _ (cc)))
