use borrow.Author.Tests.{eq-eqb, ne_eqb}
use Rattle.archive.specs.Layout.{layout_outside}
use Rattle.archive.proofs.layout.layout_outside.Goals as goal

pub returns-then-layout-eq1 : goal.returns-then-layout-eq1
unfolding layout_outside
returns-then-layout-eq1 c = rw (eq-eqb _ 1 c.if-layout-eq1.true)

pub returns : goal.returns
unfolding layout_outside
returns c = rw (ne_eqb _ 1 c.if-layout-eq1.false)
