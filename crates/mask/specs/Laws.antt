-- What is promised of masks.
use Rattle.std.specs.Prelude.{ℕ, ◌-◌, ◌<◌, ◌≡◌}
use Rattle.vector.specs.Vectors.{product}
use Rattle.mask.specs.Masks.{auxiliary, mask, mask_sum}

-- mask sum s made from Setup's elements is the mask times the first n - 2 elements of key vector s
abbrev pub MaskSums : Type 0
MaskSums =
    (n tags : ℕ) (coefficients : ℕ → ℕ) (vectors rows : ℕ → ℕ → ℕ) (s : ℕ) → s < tags
    → mask_sum n coefficients (auxiliary n tags vectors rows) s ≡ product (n - 2) (mask n coefficients rows) (vectors s)
