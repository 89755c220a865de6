use mathlib.Core.Path.{◌∙◌}
use native.Mathlib.Omega.{arith}
use Rattle.field.proofs.FactorLaws.{factored_low, factored}
use Rattle.field.proofs.tables.Tables.product_by_log.Goals as goal

pub overflow_mul-result : goal.overflow_mul-result
overflow_mul-result c = omega (arith, factored_low c.from-p.result c.factor-f.result (omega (arith, c.from-p.ensures)) c.factor-f.ensures.bit)

pub overflow_cast-result : goal.overflow_cast-result
overflow_cast-result c = omega (arith, factored_low c.from-p.result c.factor-f.result (omega (arith, c.from-p.ensures)) c.factor-f.ensures.bit)

pub returns : goal.returns
returns c =
    factored _ _ _ c.factor-f.ensures.bit c.factor-f.ensures.one _ _ c.requires.1 c.log.ensures.1 (c.from-p.ensures ∙ c.exp.ensures)
