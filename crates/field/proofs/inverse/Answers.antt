use mathlib.Core.Path.{sym, ap, ◌∙◌}
use native.Mathlib.Omega.{arith}
use Rattle.field.specs.Field.{inverse_of}
use Rattle.field.proofs.InverseLaws.{inverse_power, inverse_zero}
use Rattle.field.proofs.inverse.Goals as goal

pub returns-then-a-eq0 : goal.returns-then-a-eq0
returns-then-a-eq0 c = sym (ap inverse_of c.if-a-eq0.true ∙ inverse_zero)

pub returns-else-a-eq0 : goal.returns-else-a-eq0
returns-else-a-eq0 c = c.exp.ensures ∙ inverse_power _ _ (omega arith) (omega arith) c.log.ensures.0 (c.log.ensures.1 (omega arith))
