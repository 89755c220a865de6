use borrow.Author.Rules.{rules}
use mathlib.Core.Path.{◌∙◌}
use Rattle.linear.proofs.RowStoreLaws.{scales, to_zeros}
use Rattle.linear.proofs.scaled.Goals as goal

pub returns : goal.returns
returns c =
    let s = c.args in
    scales s.a s.r s.c c.added_row.result (search rules) (search rules) (λ j l. c.added_row.ensures j l ∙ to_zeros _ j l)
