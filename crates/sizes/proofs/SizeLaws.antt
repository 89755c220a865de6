-- Sizes in range. Assumes nothing.
use Prim.Native.Nat.{ℕ, ◌≤◌}
use mathlib.Core.Path.{◌≡◌}
use mathlib.Core.Bool.{false}
use Rattle.lists.specs.Lists.{any_of}
use Rattle.lists.proofs.AnyLaws.{none_at}
use Rattle.answer.proofs.RefusalLaws.{inside, not_outside}
use Rattle.sizes.specs.declared.Sizes.{Sizes}
use Rattle.sizes.specs.Lengths.{n_least, n_most, m_most, places_most, nodes_most, tags_most}
use Rattle.sizes.specs.Sizes.{n_outside, m_outside, tags_outside, sizes_outside}

pub record Ranged (z : Sizes) : Type 0 where
  pub n_low : n_least ≤ z.n
  pub n_high : z.n ≤ n_most
  pub m_low : 1 ≤ z.m
  pub m_high : z.m ≤ m_most
  pub places_low : 1 ≤ z.places
  pub places_high : z.places ≤ places_most
  pub nodes_low : 1 ≤ z.nodes
  pub nodes_high : z.nodes ≤ nodes_most
  pub tags_low : 1 ≤ z.tags
  pub tags_high : z.tags ≤ tags_most

pub n_range : (n : ℕ) → n_outside n ≡ false → (n_least ≤ n) × (n ≤ n_most)
n_range n e = inside n_least n_most n e

pub m_range : (m : ℕ) → m_outside m ≡ false → (1 ≤ m) × (m ≤ m_most)
m_range m e = inside 1 m_most m e

pub tags_range : (tags : ℕ) → tags_outside tags ≡ false → (1 ≤ tags) × (tags ≤ tags_most)
tags_range tags e = inside 1 tags_most tags e

pub ranged : (z : Sizes) → sizes_outside z ≡ false → Ranged z
unfolding sizes_outside
ranged z e =
    let n = n_range z.n (none_at _ 0 e) in
    let m = m_range z.m (none_at _ 1 e) in
    let places = inside 1 places_most z.places (none_at _ 2 e) in
    let nodes = inside 1 nodes_most z.nodes (none_at _ 3 e) in
    let tags = tags_range z.tags (none_at _ 4 e) in
    record {
      n_low = n.0;
      n_high = n.1;
      m_low = m.0;
      m_high = m.1;
      places_low = places.0;
      places_high = places.1;
      nodes_low = nodes.0;
      nodes_high = nodes.1;
      tags_low = tags.0;
      tags_high = tags.1;
    }

-- the two that the length of a response is made of
pub response_sizes : (z : Sizes) → sizes_outside z ≡ false → (n_outside z.n ≡ false) × (tags_outside z.tags ≡ false)
unfolding sizes_outside
response_sizes z e = (none_at _ 0 e, none_at _ 4 e)

pub not_sizes_outside : (z : Sizes) → Ranged z → sizes_outside z ≡ false
unfolding sizes_outside any_of
not_sizes_outside z r =
    rw (
      not_outside n_least n_most z.n r.n_low r.n_high,
      not_outside 1 m_most z.m r.m_low r.m_high,
      not_outside 1 places_most z.places r.places_low r.places_high,
      not_outside 1 nodes_most z.nodes r.nodes_low r.nodes_high,
      not_outside 1 tags_most z.tags r.tags_low r.tags_high,
    )
