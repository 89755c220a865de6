use borrow.Author.Tests.{le-leb, lt-leb}
use mathlib.Core.Path.{sym, ◌∙◌}
use native.Mathlib.Omega.{arith}
use Rattle.answer.proofs.RefusalLaws.{refused, passed, differs_same, differs_other}
use Rattle.archive.specs.Told.{rows_answer}
use Rattle.archive.proofs.GoodArchiveLaws.{good_length}
use Rattle.archive.proofs.CallLaws.{read_sizes}
use Rattle.gathering.proofs.RowsLaws.{rows_low, rows_answered}
use Rattle.gathering.proofs.telling.rows_check.Goals as goal

pub returns-then-bad_archive : goal.returns-then-bad_archive
unfolding rows_answer
returns-then-bad_archive c = sym (refused _ _ (cc))

pub sizes_in-z-requires : goal.sizes_in-z-requires
sizes_in-z-requires c = omega (arith, good_length _ (sym c.bad_archive.ensures ∙ c.if-bad_archive.false))

pub overflow_mul-z : goal.overflow_mul-z
overflow_mul-z c = omega (arith, rows_low _ (read_sizes _ c.sizes_in-z.ensures (cc)))

pub returns-then-rows-z : goal.returns-then-rows-z
returns-then-rows-z c = rows_answered _ c.sizes_in-z.ensures (cc) _ _ (sym (refused _ _ (differs_other c.if-rows-z.true)))

pub returns-then-z-node : goal.returns-then-z-node
returns-then-z-node c =
    rows_answered _ c.sizes_in-z.ensures (cc) _ _
    (sym (passed _ _ (differs_same c.if-rows-z.false) ∙ refused _ _ (le-leb _ _ c.if-z-node.true)))

pub returns : goal.returns
returns c =
    rows_answered _ c.sizes_in-z.ensures (cc) _ _
    (sym (passed _ _ (differs_same c.if-rows-z.false) ∙ passed _ _ (lt-leb _ _ c.if-z-node.false)))
