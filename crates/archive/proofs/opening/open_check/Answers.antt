use mathlib.Core.Path.{sym, ◌∙◌}
use Rattle.lists.proofs.AnyLaws.{or_false}
use Rattle.answer.proofs.RefusalLaws.{refused, passed, listed}
use Rattle.archive.specs.Open.{open_answer}
use Rattle.archive.proofs.opening.open_check.Goals as goal

pub returns-then-layout_outside-sizes_outside : goal.returns-then-layout_outside-sizes_outside
unfolding open_answer
returns-then-layout_outside-sizes_outside c = sym (refused _ _ (listed _ _ (cc)))

pub archive_length-requires : goal.archive_length-requires
archive_length-requires c =
    let outside = c.sizes_outside in
    sym outside.ensures ∙ (or_false c.layout_outside.result outside.result c.if-layout_outside-sizes_outside.false).1

pub returns-then-id-archive : goal.returns-then-id-archive
unfolding open_answer
returns-then-id-archive c = sym (passed _ _ (listed _ _ (cc)) ∙ refused _ _ (listed _ _ (cc)))

pub returns : goal.returns
unfolding open_answer
returns c = sym (passed _ _ (listed _ _ (cc)) ∙ passed _ _ (listed _ _ (cc)))
