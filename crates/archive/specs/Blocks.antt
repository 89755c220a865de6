-- Source blocks, and the record of a coded block (SCHEME, Sizes).
use Rattle.std.specs.Prelude.{ℕ, ◌+◌, ◌-◌, ◌*◌, List, eqb, ltb}
use Rattle.lists.specs.Lists.{pick, at, bit}
use Rattle.sizes.specs.declared.Sizes.{Sizes}
use Rattle.vector.specs.Vectors.{mixed}
use Rattle.tag.specs.KeyVector.{with_tags}
use Rattle.sizes.specs.Lengths.{block_length}

-- element e of source block i, both counted from 0: n - 2 bytes of the file, two of the padding, and a unit vector of m elements
unfoldable pub source : (z : Sizes) (file padding : List ℕ) (i e : ℕ) → ℕ
source z file padding i e =
    pick (ltb e (z.n - 2)) (at file (i * (z.n - 2) + e))
    (pick (ltb e z.n) (at padding (i * 2 + (e - (z.n - 2))))
    (bit (eqb (e - z.n) i)))

-- the source blocks combined by a row
unfoldable pub coded : (z : Sizes) (file padding : List ℕ) (row : ℕ → ℕ) → ℕ → ℕ
coded z file padding row = mixed z.m row (source z file padding)

-- that block, then its tags
unfoldable pub coded_record : (z : Sizes) (vectors : ℕ → ℕ → ℕ) (file padding : List ℕ) (row : ℕ → ℕ) → ℕ → ℕ
coded_record z vectors file padding row = with_tags (block_length z) vectors (coded z file padding row)
