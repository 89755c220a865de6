use borrow.Author.Tests.{eq-eqb, ne_eqb}
use Rattle.archive.proofs.layout.tags_in.Goals as goal

pub returns-then-layout-eq1 : goal.returns-then-layout-eq1
returns-then-layout-eq1 c = rw (eq-eqb _ 1 c.if-layout-eq1.true)

pub returns : goal.returns
returns c = rw (ne_eqb _ 1 c.if-layout-eq1.false) c.read_field.ensures
