-- F1, the key vector and tags (SCHEME, Key vector).
use Rattle.std.specs.Prelude.{ℕ, ◌+◌, ◌-◌, ◌≡◌, List, ◌∷◌, ltb}
use Rattle.lists.specs.Lists.{pick}
use Rattle.keystream.specs.Draws.{byte_at}
use Rattle.vector.specs.Vectors.{product, mixed}

-- element i, counted from 1, of the key vector of tag s, counted from 0: a byte of the stream for the id and that tag
unfoldable pub F1 : (tag_key id : List ℕ) (s i : ℕ) → ℕ
F1 tag_key id s i = byte_at tag_key (1 ∷ s ∷ 0 ∷ 0 ∷ id) (i - 1)

-- the same element, e counted from 0
unfoldable pub key_vector : (tag_key id : List ℕ) (s e : ℕ) → ℕ
key_vector tag_key id s e = F1 tag_key id s (e + 1)

-- a block of len elements and then its tags: tag s is its product with vector s
unfoldable pub with_tags : (len : ℕ) (vectors : ℕ → ℕ → ℕ) (block : ℕ → ℕ) (p : ℕ) → ℕ
with_tags len vectors block p = pick (ltb p len) (block p) (product len block (vectors (p - len)))

-- blocks with their tags behind them are combined element by element: the tags of the combination come out, for any number of tags
abbrev pub TagsCombine : Type 0
TagsCombine =
    (len count : ℕ) (coefficients : ℕ → ℕ) (blocks vectors : ℕ → ℕ → ℕ) (p : ℕ)
    → with_tags len vectors (mixed count coefficients blocks) p ≡ mixed count coefficients (λ i. with_tags len vectors (blocks i)) p
