use native.Mathlib.Omega.{arith}
use mathlib.Core.Path.{refl}
use Rattle.sizes.proofs.SizeLaws.{n_range, tags_range}
use Rattle.sizes.proofs.response_length.Goals as goal

pub overflow_add-result : goal.overflow_add-result
overflow_add-result c = omega (arith, (n_range _ c.requires.0).1)

pub overflow_mul-result : goal.overflow_mul-result
overflow_mul-result c = omega (arith, (tags_range _ c.requires.1).1)

pub overflow_add-result-2 : goal.overflow_add-result-2
overflow_add-result-2 c = omega (arith, (n_range _ c.requires.0).1, (tags_range _ c.requires.1).1)

pub returns : goal.returns
returns c = refl
