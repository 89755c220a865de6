use Prim.Native.Nat.{◌+◌, ◌*◌}
use mathlib.Core.Path.{ap}
use native.Mathlib.Nat.{mul-le-mul}
use native.Mathlib.Omega.{arith}
use Rattle.sizes.specs.Lengths.{mark_count, record_most}
use Rattle.sizes.proofs.record_start.Goals as goal

pub overflow_mul-result : goal.overflow_mul-result
overflow_mul-result c = omega (arith, mul-le-mul {n₁ = c.args.k} {n₂ = mark_count} {m₂ = record_most} (omega arith) c.record_length.ensures.1)

pub overflow_add-result : goal.overflow_add-result
overflow_add-result c = omega (arith, mul-le-mul {n₁ = c.args.k} {n₂ = mark_count} {m₂ = record_most} (omega arith) c.record_length.ensures.1)

pub returns : goal.returns
returns c = ap (λ r. 18 + c.args.k * r) c.record_length.ensures.0
