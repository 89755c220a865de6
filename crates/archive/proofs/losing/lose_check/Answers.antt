use borrow.Author.Tests.{le-leb, lt-leb}
use mathlib.Core.Path.{sym, ◌∙◌}
use native.Mathlib.Omega.{arith}
use Rattle.answer.proofs.RefusalLaws.{refused, passed}
use Rattle.archive.specs.Calls.{answer_for, archive_answer}
use Rattle.archive.proofs.GoodArchiveLaws.{good_length}
use Rattle.archive.proofs.CallLaws.{answered}
use Rattle.archive.proofs.losing.lose_check.Goals as goal

pub returns-then-bad_archive : goal.returns-then-bad_archive
unfolding archive_answer
returns-then-bad_archive c = sym (refused _ _ (cc))

pub sizes_in-z-requires : goal.sizes_in-z-requires
sizes_in-z-requires c = omega (arith, good_length _ (sym c.bad_archive.ensures ∙ c.if-bad_archive.false))

pub returns-then-z-node : goal.returns-then-z-node
unfolding answer_for
returns-then-z-node c = answered _ c.sizes_in-z.ensures (cc) _ (sym (refused _ _ (le-leb _ _ c.if-z-node.true)))

pub returns : goal.returns
unfolding answer_for
returns c = answered _ c.sizes_in-z.ensures (cc) _ (sym (passed _ _ (lt-leb _ _ c.if-z-node.false)))
