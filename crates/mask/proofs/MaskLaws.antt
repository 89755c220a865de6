-- The mask sums made from Setup's elements are the mask times the key vectors. Assumes nothing.
use Prim.Native.Nat.{ℕ, ◌-◌, ◌<◌}
use mathlib.Core.Path.{◌≡◌, sym, ap, ◌∙◌}
use lib.ListN.{length}
use Rattle.lists.proofs.PutLaws.{length_flat, flat_at}
use Rattle.field.specs.Field.{times}
use Rattle.field.proofs.SumLaws.{sum_same}
use Rattle.vector.specs.Vectors.{product}
use Rattle.vector.proofs.VectorLaws.{product_mixed}
use Rattle.sizes.specs.Lengths.{auxiliary_length}
use Rattle.mask.specs.Masks.{auxiliary, mask, mask_sum}

pub length_auxiliary : (n tags : ℕ) (vectors rows : ℕ → ℕ → ℕ) → length (auxiliary n tags vectors rows) ≡ auxiliary_length n tags
unfolding auxiliary
length_auxiliary n tags vectors rows = length_flat tags (n - 1) _

pub mask_sum_lem : (n tags : ℕ) (c : ℕ → ℕ) (vectors rows : ℕ → ℕ → ℕ) (s : ℕ) → s < tags
    → mask_sum n c (auxiliary n tags vectors rows) s ≡ product (n - 2) (mask n c rows) (vectors s)
unfolding mask_sum auxiliary mask
mask_sum_lem n tags c vectors rows s l =
    sum_same (n - 1) _ _ (λ i h. ap (times (c i)) (flat_at tags (n - 1) _ s i l h)) ∙ sym (product_mixed (n - 2) (n - 1) c rows (vectors s))
