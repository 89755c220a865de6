use Prim.Native.Nat.{◌-◌}
use native.Mathlib.Nat.{mul-le-mul}
use native.Mathlib.Omega.{arith}
use mathlib.Core.Path.{refl}
use Rattle.sizes.specs.Lengths.{n_most, tags_most}
use Rattle.sizes.proofs.SizeLaws.{n_range, tags_range}
use Rattle.sizes.proofs.auxiliary_length.Goals as goal

pub overflow_sub-result : goal.overflow_sub-result
overflow_sub-result c = omega (arith, n_range _ c.requires.0)

pub overflow_mul-result : goal.overflow_mul-result
overflow_mul-result c =
    let n = n_range _ c.requires.0 in
    let tags = tags_range _ c.requires.1 in
    omega (arith, mul-le-mul {m₁ = c.args.n - 1} {n₂ = tags_most} {m₂ = n_most} tags.1 (omega (arith, n.1)))

pub returns : goal.returns
returns c = refl
