-- The ranges of the sizes (SCHEME, Sizes).
use Rattle.std.specs.Prelude.{ℕ, Bool, [], ◌∷◌, leb}
use Rattle.lists.specs.Lists.{any_of}
use Rattle.answer.specs.Refusals.{outside}
use Rattle.sizes.specs.declared.Sizes.{Sizes}
use Rattle.sizes.specs.Lengths.{n_least, n_most, m_most, places_most, nodes_most, tags_most}

abbrev pub n_outside : (n : ℕ) → Bool
n_outside n = outside n_least n_most n

abbrev pub m_outside : (m : ℕ) → Bool
m_outside m = outside 1 m_most m

abbrev pub tags_outside : (tags : ℕ) → Bool
tags_outside tags = outside 1 tags_most tags

-- the number of a tag, counted from 0
abbrev pub tag_outside : (s : ℕ) → Bool
tag_outside s = leb tags_most s

unfoldable pub sizes_outside : (z : Sizes) → Bool
sizes_outside z =
    any_of
    (n_outside z.n
    ∷ m_outside z.m
    ∷ outside 1 places_most z.places
    ∷ outside 1 nodes_most z.nodes
    ∷ tags_outside z.tags
    ∷ [])
