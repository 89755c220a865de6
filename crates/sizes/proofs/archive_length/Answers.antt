use Prim.Native.Nat.{◌+◌, ◌*◌}
use mathlib.Core.Path.{ap}
use native.Mathlib.Nat.{mul-le-mul}
use native.Mathlib.Omega.{arith}
use Rattle.sizes.proofs.SizeLaws.{ranged}
use Rattle.sizes.proofs.PlaceLaws.{count_low}
use Rattle.sizes.specs.Lengths.{mark_count, record_most}
use Rattle.sizes.proofs.archive_length.Goals as goal

pub overflow_mul-result : goal.overflow_mul-result
overflow_mul-result c = omega (arith, count_low _ (ranged _ c.requires))

pub overflow_mul-result-2 : goal.overflow_mul-result-2
overflow_mul-result-2 c = omega (arith, mul-le-mul {n₂ = mark_count} {m₂ = record_most} (count_low _ (ranged _ c.requires)) c.record_length.ensures.1)

pub overflow_add-result : goal.overflow_add-result
overflow_add-result c = omega (arith, mul-le-mul {n₂ = mark_count} {m₂ = record_most} (count_low _ (ranged _ c.requires)) c.record_length.ensures.1)

pub returns : goal.returns
returns c =
    let z = c.args.z in
    ap (λ r. 18 + z.nodes * z.places * r) c.record_length.ensures.0
