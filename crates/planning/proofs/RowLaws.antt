-- How the repair rows are made, one place and one row after another. Assumes nothing.
use Prim.Native.Nat.{ℕ, ◌+◌, ◌-◌, ◌*◌, ◌/◌, ◌%◌, ◌<◌, ◌≤◌}
use mathlib.Core.Path.{◌≡◌, refl, sym, ap, ◌∙◌}
use mathlib.Core.Bool.{false}
use mathlib.Core.List.{List}
use native.Mathlib.Nat.{mul-le-mul, mul-le-mul_right, div-add-mod', div-lt_iff_lt-mul}
use native.Mathlib.Omega.{arith}
use lib.Bits.{xor_zero_l}
use lib.ListN.{length, replicate, get_or-replicate}
use borrow.Rule.Slice.PartMut.{put_mid}
use Rattle.std.proofs.lemmas.List.{length-replicate}
use borrow.Author.Tests.{leb-false}
use Rattle.lists.specs.Lists.{at, grid}
use Rattle.lists.proofs.AnyLaws.{any_below_lem}
use Rattle.lists.proofs.PartLaws.{part, length_part, part_at}
use Rattle.lists.proofs.PutLaws.{put_same, length_grid, grid_above, grid_more}
use Rattle.field.specs.Field.{plus, times}
use Rattle.field.proofs.SumLaws.{sum_same}
use Rattle.sizes.specs.declared.Sizes.{Sizes}
use Rattle.sizes.specs.Lengths.{header_length, mark_count, n_most, m_most, places_most, record_most, place_count, record_length, record_start, archive_length}
use Rattle.sizes.specs.Sizes.{sizes_outside}
use Rattle.sizes.proofs.SizeLaws.{Ranged, ranged}
use Rattle.sizes.proofs.PlaceLaws.{count_low, record_fits}
use Rattle.vector.specs.Vectors.{mixed, added}
use Rattle.vector.proofs.AddedLaws.{mixed_more, length_added}
use Rattle.vector.proofs.SliceLaws.{added_in_part}
use Rattle.archive.specs.Layout.{byte_in}
use Rattle.archive.specs.Read.{row_in}
use Rattle.archive.specs.Repair.{coefficient_count, helper_missing, repair_byte}
use Rattle.archive.specs.Plan.{repair_row}

-- ---- one place

-- the row of a place stands in the archive
pub row_fits : (z : Sizes) (k : ℕ) {start n : ℕ} → k < place_count z → start ≡ record_start z k → n ≡ archive_length z → start + z.n + z.m ≤ n
row_fits z k h starts long = rw (starts, long) (omega (arith, record_fits z k h))

-- and its start is low
pub row_low : (z : Sizes) (k : ℕ) {start : ℕ} → Ranged z → k < mark_count → start ≡ record_start z k → start + z.n ≤ header_length + mark_count * record_most + n_most
row_low z k R h starts =
    rw starts
    (omega (
      arith,
      R.n_high,
      mul-le-mul {n₁ = k} {m₁ = record_length z} {n₂ = mark_count} {m₂ = record_most} (omega arith) (omega (arith, R.n_high, R.m_high, R.tags_high)),
    ))

-- the rows of the first l places have been added: one more
pub row_added : (z : Sizes) (s gammas d : List ℕ) (first l : ℕ) {start : ℕ} {out next : List ℕ} → length d ≡ z.m → start ≡ record_start z (first + l)
    → out ≡ added z.m 0 (mixed l (at gammas) (λ j. row_in z s (first + j))) d
    → next ≡ added (length out) 0 (λ e. times (at gammas l) (at (part (start + z.n) (start + z.n + z.m) s) e)) out
    → next ≡ added z.m 0 (mixed (l + 1) (at gammas) (λ j. row_in z s (first + j))) d
unfolding byte_in
row_added z s gammas d first l {start} {out} long starts before more =
    let long-out : length out ≡ z.m = ap length before ∙ length_added _ _ _ _ ∙ long in
    mixed_more z.m 0 (at gammas) _ d l _ (omega (arith, long)) before (rw long-out at more)
    (λ e h.
    let q : start + z.n + e ≡ record_start z (first + l) + (z.n + e) = rw starts (omega arith) in
    ap (times (at gammas l)) (part_at (start + z.n) (start + z.n + z.m) s e (omega arith) ∙ ap (at s) q))

-- ---- one row

-- n rows stand among zeros
pub rows_long : (n m size : ℕ) (f : ℕ → ℕ → ℕ) {s : List ℕ} → s ≡ grid n m 0 f (replicate size 0) → length s ≡ size
rows_long n m size f e = ap length e ∙ length_grid n m 0 f (replicate size 0) ∙ length-replicate size 0

-- one more, a vector added to its part
pub row_made : (n m size : ℕ) (f : ℕ → ℕ → ℕ) (v : ℕ → ℕ) {s x : List ℕ} → (n + 1) * m ≤ size → s ≡ grid n m 0 f (replicate size 0)
    → x ≡ added m 0 v (part (n * m) (n * m + m) s) → ((e : ℕ) → e < m → v e ≡ f n e)
    → put_mid (n * m) (n * m + m - n * m) s x ≡ grid (n + 1) m 0 f (replicate size 0)
unfolding added
row_made n m size f v {s} {x} fits before made same =
    added_in_part (n * m) (n * m + m) m s refl (omega (arith, long)) v x (made ∙ ap (λ (k : ℕ). added k 0 v (part (n * m) (n * m + m) s)) (sym width))
    ∙ put_same m (n * m) (λ e. plus (at s (n * m + e)) (v e)) (f n) s (λ e h. ap (λ (y : ℕ). plus y (v e)) (zero_at e h) ∙ xor_zero_l (v e) ∙ same e h)
    ∙ grid_more n m 0 f (replicate size 0) {place = n * m} before (omega arith)
  where
    long : length s ≡ size
    long = rows_long n m size f before

    width : length (part (n * m) (n * m + m) s) ≡ m
    width = length_part (n * m) (n * m + m) s (omega (arith, long)) ∙ omega arith

    zero_at : (e : ℕ) → e < m → at s (n * m + e) ≡ 0
    zero_at e h =
        ap (λ (l : List ℕ). at l (n * m + e)) before ∙ grid_above n m 0 f (replicate size 0) (n * m + e) (omega arith)
        ∙ get_or-replicate size (n * m + e) 0 0 (omega arith)

module _ (z : Sizes) (s helpers : List ℕ) (q : ℕ) (gammas : List ℕ) where
  -- where its helper's places, its gammas and the row itself stand
  pub record Turn (t h : ℕ) : Type 0 where
    pub there : t / q < length helpers
    pub number : h * z.places + z.places ≤ place_count z
    pub number_low : h * z.places ≤ 48
    pub coefficients : t * z.places + z.places ≤ length gammas
    pub coefficients_low : t * z.places ≤ 40 * places_most
    pub row : t * z.m + z.m ≤ 40 * m_most

  pub helper_there : 1 ≤ q → (t : ℕ) → t < length helpers * q → t / q < length helpers
  helper_there some t l = (div-lt_iff_lt-mul {k = q} some).1 l

  -- what is known of them all
  abbrev pub Sendable : Type 0
  Sendable =
      (1 ≤ q) × (length helpers * q ≤ 40) × (helper_missing z helpers ≡ false) × (length gammas ≡ coefficient_count z helpers q)

  pub turn : sizes_outside z ≡ false → Sendable → (t : ℕ) {h : ℕ} → t < length helpers * q → h ≡ at helpers (t / q) → Turn t h
  turn outside (some, few, present, long) t {h} l is =
      let R = ranged z outside in
      let there = helper_there some t l in
      let node : h < z.nodes = rw is (leb-false _ _ (any_below_lem _ _ present (t / q) there)) in
      let number : h * z.places + z.places ≤ place_count z = omega (arith, mul-le-mul_right z.places node) in
      record {
        there = there;
        number = number;
        number_low = omega (arith, number, count_low z R);
        coefficients = omega (arith, mul-le-mul_right z.places l, long);
        coefficients_low = mul-le-mul {n₂ = 40} {m₂ = places_most} (omega (arith, few)) R.places_high;
        row = omega (arith, mul-le-mul {n₁ = t + 1} {m₁ = z.m} {n₂ = 40} {m₂ = m_most} (omega (arith, few)) R.m_high);
      }

  -- row t, as the code finds its gammas and places
  pub row_is : (t e : ℕ) {first h : ℕ} → h ≡ at helpers (t / q) → first ≡ h * z.places → t * z.places + z.places ≤ length gammas
      → mixed (length (part (t * z.places) (t * z.places + z.places) gammas)) (at (part (t * z.places) (t * z.places + z.places) gammas)) (λ l. row_in z s (first + l)) e
      ≡ repair_row z s helpers q gammas t e
  unfolding mixed repair_byte
  row_is t e {first} is starts there =
      let own = part (t * z.places) (t * z.places + z.places) gammas in
      let size : length own ≡ z.places = length_part (t * z.places) (t * z.places + z.places) gammas there ∙ omega arith in
      ap (λ (n : ℕ). mixed n (at own) (λ l. row_in z s (first + l)) e) size
      ∙ sum_same z.places _ _ (λ l k.
      let c : t * z.places + l ≡ (t / q * q + t % q) * z.places + l = rw (div-add-mod' t q) (omega arith) in
      let v : first + l ≡ at helpers (t / q) * z.places + l = rw (starts, is) (omega arith) in
      ap (λ (x : ℕ). times x (row_in z s (first + l) e)) (part_at (t * z.places) (t * z.places + z.places) gammas l (omega arith)) ∙ rw (c, v) refl)
