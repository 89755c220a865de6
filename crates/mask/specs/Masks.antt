-- F2, F3, mask rows, auxiliary elements, mask and mask sum (SCHEME, Mask).
use Rattle.std.specs.Prelude.{ℕ, ◌+◌, ◌-◌, ◌*◌, ◌/◌, ◌%◌, List, ◌∷◌}
use Rattle.lists.specs.Lists.{at, flat}
use Rattle.field.specs.Field.{sum, times}
use Rattle.keystream.specs.Draws.{byte_at}
use Rattle.vector.specs.Vectors.{product, mixed}

-- element j of mask row i, both counted from 1: a byte of the stream whose nonce has the row in it
unfoldable pub F2 : (mask_key id : List ℕ) (i j : ℕ) → ℕ
F2 mask_key id i j = byte_at mask_key (2 ∷ 0 ∷ i / 256 % 256 ∷ i % 256 ∷ id) (j - 1)

-- the coefficient of mask row i, counted from 1, for a seed
unfoldable pub F3 : (mask_key seed : List ℕ) (i : ℕ) → ℕ
F3 mask_key seed i = byte_at mask_key (3 ∷ seed) (i - 1)

-- mask row i and its element e, both counted from 0
unfoldable pub mask_row : (mask_key id : List ℕ) (i e : ℕ) → ℕ
mask_row mask_key id i e = F2 mask_key id (i + 1) (e + 1)

-- the coefficient of mask row i, counted from 0
unfoldable pub mask_coefficient : (mask_key seed : List ℕ) (i : ℕ) → ℕ
mask_coefficient mask_key seed i = F3 mask_key seed (i + 1)

-- ---- over any key vectors, mask rows and coefficients

-- tag by tag: each mask row times the first n - 2 elements of the tag's key vector
unfoldable pub auxiliary : (n tags : ℕ) (vectors rows : ℕ → ℕ → ℕ) → List ℕ
auxiliary n tags vectors rows = flat tags (n - 1) (λ s i. product (n - 2) (rows i) (vectors s))

-- the mask rows combined
unfoldable pub mask : (n : ℕ) (coefficients : ℕ → ℕ) (rows : ℕ → ℕ → ℕ) → ℕ → ℕ
mask n coefficients rows = mixed (n - 1) coefficients rows

-- the auxiliary elements of tag s combined by the same coefficients
unfoldable pub mask_sum : (n : ℕ) (coefficients : ℕ → ℕ) (auxiliaries : List ℕ) (s : ℕ) → ℕ
mask_sum n coefficients auxiliaries s = sum (n - 1) (λ i. times (coefficients i) (at auxiliaries (s * (n - 1) + i)))
