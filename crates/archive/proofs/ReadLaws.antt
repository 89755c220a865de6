-- The file that solves for the places taken is fixed. Assumes nothing.
use Prim.Native.Nat.{ℕ, ◌+◌, ◌-◌, ◌*◌, ◌/◌, ◌%◌, ◌<◌, ◌≤◌}
use mathlib.Core.Path.{◌≡◌, sym, ap₂, ◌∙◌, subst}
use mathlib.Core.Logic.{◌≢◌}
use mathlib.Core.Bool.{Bool, true}
use mathlib.Core.List.{List}
use native.Mathlib.Decide.{ℕ_discrete}
use native.Mathlib.Nat.{div-add-mod', mod-lt, div-lt_iff_lt-mul, mul-le-mul_right}
use native.Mathlib.Omega.{arith}
use lib.Bits.{xor_self, xor_lt}
use lib.ListN.{length}
use lib.Seq.{ext_get_or}
use Rattle.lists.specs.Lists.{at, Bytes}
use Rattle.field.specs.Field.{plus}
use Rattle.field.proofs.XorLaws.{xor_equal}
use Rattle.sizes.specs.declared.Sizes.{Sizes}
use Rattle.vector.specs.Vectors.{product}
use Rattle.vector.proofs.VectorLaws.{product_same, product_right}
use Rattle.vector.proofs.TakenLaws.{candidate_zero}
use Rattle.sizes.specs.Lengths.{place_count, file_length}
use Rattle.archive.specs.Layout.{mark_at, byte_in}
use Rattle.archive.specs.Read.{row_in, Blind, Solved}

-- ---- the same for two that agree on the places there are, and on the rows of those that are named

pub blind_same : (z : Sizes) (f g : ℕ → Bool) (r r' : ℕ → ℕ → ℕ) → ((k : ℕ) → k < place_count z → f k ≡ g k)
    → ((k i : ℕ) → k < place_count z → g k ≡ true → i < z.m → r k i ≡ r' k i) → Blind z f r → Blind z g r'
blind_same z f g r r' marks rows w =
    record {
      v = w.v;
      bytes = w.bytes;
      one = w.one;
      one_there = w.one_there;
      one_not = w.one_not;
      orthogonal = λ k h e.
          sym (product_same z.m (r k) (r' k) w.v (λ i l. rows k i h e l)) ∙ w.orthogonal k h (marks k h ∙ e);
    }

-- ---- the solution

-- the bytes of a column
column_low : (z : Sizes) (xs : List ℕ) → length xs ≡ file_length z → Bytes xs
    → (e i : ℕ) → e < z.n - 2 → i < z.m → at xs (i * (z.n - 2) + e) < 256
column_low z xs q b e i he h = b (i * (z.n - 2) + e) (omega (arith, mul-le-mul_right (z.n - 2) h))

module _ (z : Sizes) (s out file : List ℕ) (w : Solved z s out) (low : 3 ≤ z.n) (size : length file ≡ file_length z) (bytes : Bytes file)
    (fits : (k e : ℕ) → k < place_count z → w.taken k ≡ true → e < z.n - 2
    → product z.m (row_in z s k) (λ i. at file (i * (z.n - 2) + e)) ≡ byte_in z s k e)
    (readable : ¬ Blind z (mark_at s) (row_in z s)) where
  -- what the two files differ by in column e: it is orthogonal to the rows taken, so to those filled, so it is zero
  abbrev gap : ℕ → ℕ → ℕ
  gap e i = plus (at out (i * (z.n - 2) + e)) (at file (i * (z.n - 2) + e))

  gap_taken : (e : ℕ) → e < z.n - 2 → (k : ℕ) → k < place_count z → w.taken k ≡ true → product z.m (row_in z s k) (gap e) ≡ 0
  gap_taken e he k h t = product_right z.m _ _ _ ∙ ap₂ plus (w.solves k e h t he) (fits k e h t he) ∙ xor_self (byte_in z s k e)

  gap_filled : (e : ℕ) → e < z.n - 2 → (k : ℕ) → k < place_count z → mark_at s k ≡ true → product z.m (row_in z s k) (gap e) ≡ 0
  gap_filled e he = candidate_zero z.m (row_in z s) (mark_at s) (place_count z) w.taken w.takes (gap e) (gap_taken e he)

  gap_blind : (e : ℕ) → e < z.n - 2 → (i : ℕ) → i < z.m → gap e i ≢ 0 → Blind z (mark_at s) (row_in z s)
  gap_blind e he i h q =
      record {
        v = gap e;
        bytes = λ j l. xor_lt 8 _ _ (column_low z out w.size w.bytes e j he l) (column_low z file size bytes e j he l);
        one = i;
        one_there = h;
        one_not = q;
        orthogonal = gap_filled e he;
      }

  gap_zero : (e : ℕ) → e < z.n - 2 → (i : ℕ) → i < z.m → gap e i ≡ 0
  gap_zero e he i h = elim (ℕ_discrete (gap e i) 0) [ yes q ↦ q | no q ↦ absurd (readable (gap_blind e he i h q)) ]

  pub solution_only : out ≡ file
  solution_only =
      ext_get_or 0 out file (w.size ∙ sym size) (λ i h.
      let d : ℕ = z.n - 2 in
      let pos : 0 < d = omega arith in
      let hi : i < z.m * d = omega (arith, w.size) in
      subst (λ (x : ℕ). at out x ≡ at file x) (div-add-mod' i d)
      (xor_equal (gap_zero (i % d) (mod-lt i pos) (i / d) ((div-lt_iff_lt-mul {k = d} pos).1 hi))))
