-- The rows of an archive's places. Assumes nothing.
use Prim.Native.Nat.{ℕ, ◌+◌, ◌*◌, ◌<◌}
use mathlib.Core.Path.{◌≡◌, ap}
use mathlib.Core.List.{List}
use native.Mathlib.Omega.{arith}
use lib.ListN.{length}
use Rattle.lists.specs.Lists.{at}
use Rattle.sizes.specs.declared.Sizes.{Sizes}
use Rattle.sizes.specs.Lengths.{record_length, record_start, place_count, archive_length}
use Rattle.sizes.proofs.SizeLaws.{Ranged}
use Rattle.sizes.proofs.PlaceLaws.{count_low, record_fits}
use Rattle.choice.specs.declared.rows.Rows.{Rows}
use Rattle.choice.specs.PrivateStanding.{Standing}
use Rattle.choice.specs.PrivateChoice.{row_at}
use Rattle.archive.specs.Layout.{byte_in}
use Rattle.archive.specs.Read.{row_in}
use Rattle.reading.specs.PrivateRows.{RowsIn}

-- the last m elements of a place's block are its row
pub row_in_lem : (z : Sizes) (s : List ℕ) {rows : Rows} → RowsIn z s rows → (k i : ℕ) → row_at rows k i ≡ row_in z s k i
unfolding byte_in
row_in_lem z s {rows} is k i =
    let q : 18 + z.n + k * record_length z + i ≡ record_start z k + (z.n + i) = omega arith in
    rw (is.bytes, is.start, is.stride) (ap (at s) q)

pub row_byte : (z : Sizes) (s : List ℕ) → ((i : ℕ) → at s i < 256) → (k i : ℕ) → row_in z s k i < 256
unfolding byte_in
row_byte z s low k i = low _

pub rows_standing : (z : Sizes) (s : List ℕ) → Ranged z → length s ≡ archive_length z → Standing (18 + z.n) (record_length z) (place_count z) z.m s
rows_standing z s R long = (count_low z R, R.m_high, λ k h. omega (arith, record_fits z k h, long))
