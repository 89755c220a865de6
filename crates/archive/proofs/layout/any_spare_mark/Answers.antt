use borrow.Author.Rules.{rules}
use borrow.Author.Tests.{tests}
use Rattle.lists.proofs.RangeLaws.{any_range}
use Rattle.archive.specs.Layout.{mark_at}
use Rattle.archive.proofs.layout.any_spare_mark.Goals as goal

pub returns : goal.returns
returns c = any_range _ _ (mark_at c.args.s.now) (λ k b q called. search (rules, tests)) _ _ _ c.any.ensures.ran
