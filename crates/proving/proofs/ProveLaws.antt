-- The places that a challenge names, and their records combined. Assumes nothing.
use Prim.Native.Nat.{ℕ, ◌+◌, ◌*◌, ◌<◌, ◌≤◌}
use mathlib.Core.Path.{◌≡◌, refl, ap, ◌∙◌}
use mathlib.Core.Bool.{false}
use mathlib.Core.List.{List}
use native.Mathlib.Nat.{mul-le-mul}
use native.Mathlib.Omega.{arith}
use lib.ListN.{length, replicate, length-replicate}
use borrow.Author.Tests.{leb-false}
use Rattle.lists.specs.Lists.{at, put}
use Rattle.lists.proofs.PartLaws.{part, length_part, part_at}
use Rattle.lists.proofs.PutLaws.{put_front}
use Rattle.lists.proofs.AnyLaws.{none_at}
use Rattle.sizes.specs.declared.Sizes.{Sizes}
use Rattle.sizes.specs.Sizes.{sizes_outside}
use Rattle.sizes.proofs.SizeLaws.{ranged}
use Rattle.vector.proofs.VectorLaws.{mixed_vectors}
use Rattle.message.specs.Challenge.{Challenge, not_there}
use Rattle.message.proofs.NamedLaws.{first_named, place_there}
use Rattle.sizes.specs.Lengths.{archive_length, place_count, record_length, place_number, record_start, record_most}
use Rattle.archive.specs.Layout.{byte_in}
use Rattle.archive.specs.Prove.{named_byte}
use Rattle.sizes.proofs.PlaceLaws.{number_low, count_low, record_fits, node_in}

-- the first place of a node that a challenge can name
pub first_low : (z : Sizes) {node : ℕ} → sizes_outside z ≡ false → node ≤ 5 → node * z.places ≤ 40
first_low z outside h = mul-le-mul {n₂ = 5} {m₂ = 8} h (ranged z outside).places_high

module _ (s : List ℕ) (z : Sizes) (c : Challenge) (outside : sizes_outside z ≡ false) (long : length s ≡ archive_length z) (there : not_there z c ≡ false) where
  abbrev count : ℕ
  count = length c.places

  -- the number of the j-th named place
  abbrev named : ℕ → ℕ
  named j = place_number z c.node (at c.places j)

  named_there : (j : ℕ) → j < count → named j < place_count z
  named_there j h =
      number_low z (ranged z outside) c.node (at c.places j) (leb-false _ _ (none_at _ 0 there)) (place_there z c there j h)

  -- as code computes it
  module _ (j : ℕ) (h : j < count) {node p : ℕ} (f : node ≡ c.node) (g : p ≡ at c.places j) where
    pub number_is : node * z.places + p ≡ named j
    number_is = rw (f, g) refl

    pub number_fits : node * z.places + p < 48
    number_fits = omega (arith, number_is, named_there j h, count_low z (ranged z outside))

  -- the records of the named node, as code finds them
  module _ {node start len : ℕ} (f : node ≡ c.node) (a : start ≡ record_start z (node * z.places)) (l : len ≡ record_length z) where
    start_is : start ≡ record_start z (c.node * z.places)
    start_is = a ∙ rw f

    records_there : (j : ℕ) → j < count → start + at c.places j * len + len ≤ length s
    records_there j h = rw (start_is, l, long) (omega (arith, record_fits z (named j) (named_there j h)))

    pub records_start : start ≤ length s
    records_start = rw (start_is, long) (omega (arith, node_in z c.node (leb-false _ _ (none_at _ 0 there))))

    pub records_in_part : {k : ℕ} → k ≡ len → (j : ℕ) → j < count → at c.places j * k + k ≤ length (part start (length s) s)
    records_in_part q j h = rw q (omega (arith, length_part start (length s) s (omega arith), records_there j h))

    -- those of the named places, as they were added to the first elements of zeros
    pub records_named : {t : List ℕ} → len ≤ record_most → t ≡ put len 0 (first_named c (part start (length s) s) len count) (replicate record_most 0)
        → (i : ℕ) → i < record_length z → at t i ≡ named_byte z s c i
    unfolding named_byte byte_in
    records_named fits made i h =
        ap (λ (x : List ℕ). at x i) made
        ∙ put_front len (first_named c (part start (length s) s) len count) (replicate record_most 0) i (omega (arith, l)) (omega (arith, length-replicate {A = ℕ} record_most 0))
        ∙ mixed_vectors count (at c.coefficients) _ _ i (λ j b.
        part_at start (length s) s (at c.places j * len + i) (omega (arith, records_there j b, l)) ∙ ap (at s) (rw (start_is, l) (omega arith)))
