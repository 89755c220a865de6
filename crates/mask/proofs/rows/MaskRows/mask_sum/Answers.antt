use Prim.Native.Nat.{◌+◌, ◌-◌, ◌*◌}
use mathlib.Core.Path.{refl}
use native.Mathlib.Nat.{mul-le-mul, mul-le-mul_right}
use native.Mathlib.Omega.{arith}
use Rattle.sizes.specs.Lengths.{n_most, tags_most}
use Rattle.vector.proofs.SliceLaws.{product_in_part}
use Rattle.mask.proofs.SetupLaws.{sum_drawn}
use Rattle.mask.proofs.rows.MaskRows.mask_sum.Goals as goal

pub overflow_mul-first : goal.overflow_mul-first
overflow_mul-first c =
    omega (arith, mul-le-mul {n₁ = c.args.s} {m₁ = c.args.self.now.n - 1} {n₂ = tags_most} {m₂ = n_most} (omega arith) (omega arith))

pub returns : goal.returns
returns c =
    let first = c.args.s * (c.args.self.now.n - 1) in
    sum_drawn _ _ _ _ _ c.seed_nonce.ensures c.new-coefficients.ensures
    (product_in_part first (first + (c.args.self.now.n - 1)) (c.args.self.now.n - 1) c.args.auxiliary.now _ refl (omega (arith, c.requires.1)) c.product_drawn.ensures)
