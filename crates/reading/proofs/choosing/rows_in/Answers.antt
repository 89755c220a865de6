use native.Mathlib.Omega.{arith}
use Rattle.sizes.proofs.SizeLaws.{ranged}
use Rattle.sizes.proofs.PlaceLaws.{count_low}
use Rattle.reading.proofs.PlaceRowLaws.{rows_standing}
use Rattle.reading.proofs.choosing.rows_in.Goals as goal

pub overflow_add-result : goal.overflow_add-result
overflow_add-result c = omega (arith, (ranged _ c.args.records.ranges).n_high)

pub overflow_mul-result : goal.overflow_mul-result
overflow_mul-result c = omega (arith, count_low _ (ranged _ c.args.records.ranges))

pub invariant_of-result : goal.invariant_of-result
invariant_of-result c = record {
  standing = rw c.record_length.ensures.0 (rows_standing c.args.records.z c.args.records.bytes.now (ranged _ c.args.records.ranges) c.args.records.long);
  all_bytes = c.args.records.all_bytes;
}
