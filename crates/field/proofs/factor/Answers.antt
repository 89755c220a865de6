use mathlib.Core.Path.{ap₂}
use Prim.Native.Nat.{◌*◌}
use native.Mathlib.Omega.{arith}
use Rattle.field.proofs.FactorLaws.{ordinary_low, ordinary_some}
use Rattle.field.proofs.factor.Goals as goal

pub overflow_mul-result : goal.overflow_mul-result
overflow_mul-result c = omega (arith, ordinary_low c.from.result c.from-2.result (omega (arith, c.from.ensures)) (omega (arith, c.from-2.ensures)))

pub overflow_add-result : goal.overflow_add-result
overflow_add-result c = omega (arith, ordinary_low c.from.result c.from-2.result (omega (arith, c.from.ensures)) (omega (arith, c.from-2.ensures)))

pub returns : goal.returns
returns c =
    let low = ordinary_low c.from.result c.from-2.result (omega (arith, c.from.ensures)) (omega (arith, c.from-2.ensures)) in
    let same = ap₂ ◌*◌ c.from.ensures c.from-2.ensures in
    record {
      bit = omega (arith, low, same);
      one = (λ e. (ordinary_some _ _).0 (omega (arith, low, same)), λ h. omega (arith, low, same, (ordinary_some _ _).1 h));
    }
