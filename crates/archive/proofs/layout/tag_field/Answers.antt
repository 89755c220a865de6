use borrow.Author.Tests.{eq-eqb, ne_eqb}
use Rattle.archive.specs.Layout.{tag_field}
use Rattle.archive.proofs.layout.tag_field.Goals as goal

pub returns-then-layout-eq1 : goal.returns-then-layout-eq1
unfolding tag_field
returns-then-layout-eq1 c = rw (eq-eqb _ 1 c.if-layout-eq1.true)

pub returns : goal.returns
unfolding tag_field
returns c = rw (ne_eqb _ 1 c.if-layout-eq1.false)
