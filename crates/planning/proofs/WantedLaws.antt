-- Where a wanted row stands, and its product with a vector. Assumes nothing.
use Prim.Native.Nat.{ℕ, ◌+◌, ◌*◌, ◌<◌, ◌≤◌}
use mathlib.Core.Path.{◌≡◌, ap, ◌∙◌}
use mathlib.Core.Bool.{true}
use mathlib.Core.List.{List}
use native.Mathlib.Nat.{mul-le-mul_right}
use native.Mathlib.Omega.{arith}
use borrow.Author.Tests.{eqb-true, not-true, not-false}
use Rattle.lists.specs.Lists.{at}
use Rattle.lists.proofs.AnyLaws.{any_below_lem}
use Rattle.field.specs.Field.{times}
use Rattle.field.proofs.SumLaws.{sum_zero}
use Rattle.field.proofs.TimesLaws.{times_zero}
use Rattle.vector.specs.Vectors.{product, all_zero}
use Rattle.vector.proofs.VectorLaws.{product_same}
use Rattle.linear.specs.declared.rows.Row.{Row}
use Rattle.linear.specs.PrivateRows.{kept}
use Rattle.linear.proofs.KeptLaws.{kept_at}
use Rattle.sizes.specs.declared.Sizes.{Sizes}
use Rattle.archive.specs.Plan.{wanted_row}

module _ (z : Sizes) (k : ℕ) where
  pub wanted_fits : {n : ℕ} → k < z.places → n ≡ z.places * z.m → k * z.m + z.m ≤ n
  wanted_fits l long = omega (arith, mul-le-mul_right z.m l)

  -- the row as it is kept
  pub wanted_product : (rows : List ℕ) {row : Row} → z.m ≤ 16 → row ≡ kept z.m (λ i. at rows (k * z.m + i)) → (v : ℕ → ℕ)
      → product z.m (at row.bytes) v ≡ product z.m (wanted_row z rows k) v
  wanted_product rows {row} width is v = product_same z.m (at row.bytes) (wanted_row z rows k) v (kept_at z.m _ width is)

-- a vector of zeros sees no row
pub zero_sees : (m : ℕ) (w v : ℕ → ℕ) → all_zero m v ≡ true → product m w v ≡ 0
unfolding all_zero product
zero_sees m w v none = sum_zero m _ (λ e l. ap (times (w e)) (each e l) ∙ times_zero (w e))
  where
    each : (e : ℕ) → e < m → v e ≡ 0
    each e l = eqb-true _ _ (not-false _ (any_below_lem m _ (not-true _ none) e l))
