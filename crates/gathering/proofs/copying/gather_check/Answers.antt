use borrow.Author.Tests.{le-leb, lt-leb}
use mathlib.Core.Path.{sym, ◌∙◌}
use native.Mathlib.Omega.{arith}
use Rattle.lists.proofs.AnyLaws.{any_here, any_there}
use Rattle.answer.proofs.RefusalLaws.{refused, passed}
use Rattle.sizes.proofs.SizeLaws.{not_sizes_outside}
use Rattle.archive.specs.Gather.{gather_answer}
use Rattle.archive.proofs.GoodArchiveLaws.{good_length}
use Rattle.archive.proofs.CallLaws.{read_sizes, read_length}
use Rattle.gathering.proofs.GatherLaws.{gather_answered}
use Rattle.gathering.proofs.copying.gather_check.Goals as goal

pub returns-then-bad_archive : goal.returns-then-bad_archive
unfolding gather_answer
returns-then-bad_archive c = sym (refused _ _ (any_here _ _ (cc)))

pub returns-then-bad_archive-2 : goal.returns-then-bad_archive-2
unfolding gather_answer
returns-then-bad_archive-2 c = sym (refused _ _ (any_there _ _ (any_here _ _ (cc))))

pub other_archive-requires : goal.other_archive-requires
other_archive-requires c =
    let good = sym c.bad_archive.ensures ∙ c.if-bad_archive.false in
    let share-good = sym c.bad_archive-2.ensures ∙ c.if-bad_archive-2.false in
    (omega (arith, good_length _ good), omega (arith, good_length _ share-good))

pub returns-then-other_archive : goal.returns-then-other_archive
unfolding gather_answer
returns-then-other_archive c = sym (refused _ _ (any_there _ _ (any_there _ _ (any_here _ _ (cc)))))

pub sizes_in-z-requires : goal.sizes_in-z-requires
sizes_in-z-requires c =
    omega (arith, good_length _ (sym c.bad_archive.ensures ∙ c.if-bad_archive.false))

pub returns-then-z-node : goal.returns-then-z-node
returns-then-z-node c =
    gather_answered _ _ c.sizes_in-z.ensures (cc) (cc) (cc) _ (sym (refused _ _ (le-leb _ _ c.if-z-node.true)))

pub any_place-requires : goal.any_place-requires
any_place-requires c =
    let read = c.sizes_in-z.ensures in
    (not_sizes_outside _ (read_sizes _ read (cc)), c.if-z-node.false, omega (arith, read_length _ read (cc)))

pub returns-then-any_place : goal.returns-then-any_place
returns-then-any_place c =
    gather_answered _ _ c.sizes_in-z.ensures (cc) (cc) (cc) _
    (sym (passed _ _ (lt-leb _ _ c.if-z-node.false) ∙ refused _ _ (sym c.any_place.ensures ∙ c.if-any_place.true)))

pub returns : goal.returns
returns c =
    gather_answered _ _ c.sizes_in-z.ensures (cc) (cc) (cc) _
    (sym (passed _ _ (lt-leb _ _ c.if-z-node.false) ∙ passed _ _ (sym c.any_place.ensures ∙ c.if-any_place.false)))
