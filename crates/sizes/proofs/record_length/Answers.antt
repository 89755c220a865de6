use native.Mathlib.Omega.{arith}
use mathlib.Core.Path.{refl}
use Rattle.sizes.proofs.SizeLaws.{ranged}
use Rattle.sizes.proofs.record_length.Goals as goal

pub overflow_add-result : goal.overflow_add-result
overflow_add-result c = let r = ranged _ c.requires in omega (arith, r.n_high, r.m_high, r.tags_high)

pub overflow_add-result-2 : goal.overflow_add-result-2
overflow_add-result-2 c = let r = ranged _ c.requires in omega (arith, r.n_high, r.m_high, r.tags_high)

pub returns : goal.returns
returns c = let r = ranged _ c.requires in (refl, omega (arith, r.n_high, r.m_high, r.tags_high))
