-- The vectors of the places that a challenge names, added up. Assumes nothing.
use Prim.Native.Nat.{ℕ, ◌+◌, ◌*◌, ◌<◌, ◌≤◌}
use mathlib.Core.Path.{◌≡◌, refl, sym, ap, ap₂, ◌∙◌}
use mathlib.Core.Bool.{false}
use mathlib.Core.List.{List}
use native.Mathlib.Nat.{mul-le-mul_right}
use native.Mathlib.Omega.{arith}
use lib.ListN.{length, replicate, length-replicate, get_or-replicate}
use borrow.Author.Tests.{leb-false}
use lib.Bits.{xor_zero_l}
use borrow.Rule.Slice.PartMut.{mid_of, put_mid}
use Rattle.lists.specs.Lists.{at, put}
use Rattle.lists.proofs.SliceLaws.{length_part, put_part, part_at as mid_at}
use Rattle.lists.proofs.PartLaws.{part, part_at}
use Rattle.lists.proofs.AnyLaws.{none_at, any_below_lem}
use Rattle.field.specs.Field.{plus, times}
use Rattle.sizes.specs.declared.Sizes.{Sizes}
use Rattle.vector.specs.Vectors.{mixed, added}
use Rattle.vector.proofs.AddedLaws.{length_added, added_at, mixed_more}
use Rattle.message.specs.Challenge.{Challenge, not_there}

-- the vectors of the first `count` named places, combined
abbrev pub first_named : Challenge → List ℕ → ℕ → ℕ → ℕ → ℕ
first_named c u len count = mixed count (at c.coefficients) (λ j e. at u (at c.places j * len + e))

-- places that are named are there, and so are their vectors
module _ (z : Sizes) (c : Challenge) (there : not_there z c ≡ false) where
  pub place_there : (j : ℕ) → j < length c.places → at c.places j < z.places
  place_there j h = leb-false _ _ (any_below_lem _ _ (none_at _ 1 there) j h)

  pub vectors_there : (len : ℕ) {n : ℕ} → z.places * len ≤ n → (j : ℕ) → j < length c.places → at c.places j * len + len ≤ n
  vectors_there len fits j h = omega (arith, mul-le-mul_right {m = at c.places j + 1} {n = z.places} len (omega (arith, place_there j h)))

-- the place of item j, as code reads it
module _ (c : Challenge) (u : List ℕ) (len j : ℕ) (h : j < length c.places)
    (fits : (i : ℕ) → i < length c.places → at c.places i * len + len ≤ length u) {p : ℕ} (place : p ≡ at c.places j) where
  pub item_there : p * len + len ≤ length u
  item_there = rw place (fits j h)

  -- to d, the vectors of j items have been added: one more
  pub item_more : (d : List ℕ) {s t : List ℕ} {k : ℕ} → len ≡ length d → length s ≡ length d → k ≡ at c.coefficients j
      → s ≡ added len 0 (first_named c u len j) d
      → t ≡ added (length s) 0 (λ e. times k (at (part (p * len) (p * len + len) u) e)) s → t ≡ added len 0 (first_named c u len (j + 1)) d
  item_more d {s} is size q before now =
      let long : length s ≡ len = size ∙ sym is in
      mixed_more len 0 _ _ d j _ (omega arith) before (rw long at now) (λ e l.
      ap₂ times q (part_at (p * len) (p * len + len) u e (omega arith) ∙ ap (λ (x : ℕ). at u (x * len + e)) place))

abbrev front_of : ℕ → ℕ → List ℕ
front_of size len = mid_of 0 len (replicate size 0)

-- all of them added to the first `len` of zeros, `&mut zeros[..len]`
pub named_front : (c : Challenge) (u : List ℕ) (size len : ℕ) {x : List ℕ} → len ≤ size
    → x ≡ added (length (front_of size len)) 0 (first_named c u (length (front_of size len)) (length c.places)) (front_of size len)
    → put_mid 0 len (replicate size 0) x ≡ put len 0 (first_named c u len (length c.places)) (replicate size 0)
named_front c u size len {x} fits made =
    let zeros : List ℕ = replicate size 0 in
    let front : List ℕ = mid_of 0 len zeros in
    let w : ℕ → ℕ = first_named c u len (length c.places) in
    let whole : length zeros ≡ size = length-replicate {A = ℕ} size 0 in
    let long : length front ≡ len = length_part 0 len zeros (omega arith) in
    let there : x ≡ added len 0 w front = rw long at made in
    put_part len 0 w zeros x refl (omega arith) (ap length there ∙ length_added len 0 w front ∙ long)
    (λ i h.
    let q : 0 + i ≡ i = omega arith in
    let zero_at : at front (0 + i) ≡ 0 = rw q (mid_at 0 len zeros i h ∙ get_or-replicate size (0 + i) 0 0 (omega arith)) in
    let here : at x i ≡ at (added len 0 w front) (0 + i) = rw (there, q) refl in
    here ∙ added_at len 0 w front i h (omega arith) ∙ ap (λ (y : ℕ). plus y (w i)) zero_at ∙ xor_zero_l (w i))
