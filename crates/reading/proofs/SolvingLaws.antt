-- The turns of the loops that write the file. Assumes nothing.
use Prim.Native.Nat.{ℕ, ◌+◌, ◌-◌, ◌*◌, ◌<◌, ◌≤◌}
use mathlib.Core.Path.{◌≡◌, ap, ◌∙◌}
use mathlib.Core.Bool.{false}
use mathlib.Core.List.{List}
use native.Mathlib.Nat.{mul-le-mul_right}
use native.Mathlib.Omega.{arith}
use lib.ListN.{length}
use Rattle.lists.specs.Lists.{at}
use Rattle.field.specs.Field.{times}
use Rattle.sizes.specs.declared.Sizes.{Sizes}
use Rattle.sizes.specs.Sizes.{sizes_outside}
use Rattle.vector.specs.Vectors.{mixed, added}
use Rattle.sizes.proofs.SizeLaws.{ranged}
use Rattle.vector.proofs.AddedLaws.{mixed_more}
use Rattle.sizes.specs.Lengths.{n_most, m_most, place_count, record_start, archive_length}
use Rattle.archive.specs.Layout.{byte_in}
use Rattle.sizes.proofs.PlaceLaws.{record_fits, file_low}

-- the data of a place lies in the archive
pub data_fits : (z : Sizes) {n p k start : ℕ} → p < place_count z → k ≡ p → start ≡ record_start z k → n ≡ archive_length z → start + (z.n - 2) ≤ n
data_fits z {p = p} h e starts long = rw (starts, e, long) (omega (arith, record_fits z p h))

-- the data of the first t places has been added: one more
pub place_added : (z : Sizes) (s places coefficients d : List ℕ) (len from t : ℕ) {k start : ℕ} {file written : List ℕ} → from + len ≤ length d → k ≡ at places t
    → start ≡ record_start z k → file ≡ added len from (mixed t (at coefficients) (λ j. byte_in z s (at places j))) d
    → written ≡ added len from (λ e. times (at coefficients t) (at s (start + e))) file
    → written ≡ added len from (mixed (t + 1) (at coefficients) (λ j. byte_in z s (at places j))) d
unfolding byte_in
place_added z s places coefficients d len from t fits is starts before more =
    mixed_more len from (at coefficients) _ d t _ fits before more
    (λ e h. ap (λ (x : ℕ). times (at coefficients t) (at s (x + e))) (starts ∙ ap (record_start z) is))

-- a row's end lies in the file
pub row_fits : (i m len : ℕ) → i < m → i * len + len ≤ m * len
row_fits i m len h = omega (arith, mul-le-mul_right {m = i + 1} {n = m} len (omega arith))

-- the start of a row is low
pub row_low : (z : Sizes) → sizes_outside z ≡ false → (i : ℕ) → i < z.m → i * (z.n - 2) ≤ m_most * n_most
row_low z sizes i h = omega (arith, row_fits i z.m (z.n - 2) h, file_low z (ranged z sizes))
