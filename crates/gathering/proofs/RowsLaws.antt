-- What Sizes and Rows answer, and the rows that are written. Assumes nothing.
use Prim.Native.Nat.{ℕ, ◌+◌, ◌*◌, ◌<◌, ◌≤◌}
use mathlib.Core.Path.{◌≡◌, sym, ap, ◌∙◌}
use mathlib.Core.Bool.{true, false}
use mathlib.Core.List.{List}
use native.Mathlib.Nat.{mul-le-mul, mul-le-mul_right}
use native.Mathlib.Omega.{arith}
use lib.Dec.{leb}
use lib.ListN.{length}
use borrow.Author.Tests.{leb-false}
use Rattle.lists.specs.Lists.{at, tab, put, flat, grid}
use Rattle.lists.proofs.TabLaws.{tab_same}
use Rattle.lists.proofs.PutLaws.{grid_more, grid_all}
use Rattle.answer.specs.Answer.{Outcome, done}
use Rattle.answer.specs.declared.Refusal.TheVariants.{Length, NoSuchPlace}
use Rattle.answer.specs.Refusals.{Passed, refuse, differs}
use Rattle.answer.proofs.RefusalLaws.{refused, passed, accepted, after_done, after_refused, same}
use Rattle.sizes.specs.declared.Sizes.{Sizes}
use Rattle.sizes.specs.Lengths.{m_most, places_most, mark_count, place_number, record_start}
use Rattle.sizes.proofs.SizeLaws.{Ranged}
use Rattle.sizes.proofs.PlaceLaws.{number_low, number_mark, record_fits}
use Rattle.archive.specs.Layout.{sizes_of, mark_at, byte_in, bad_archive}
use Rattle.archive.specs.Told.{sizes_answer, size_after, stored_row, rows_answer}
use Rattle.archive.proofs.CallLaws.{read_sizes, read_length}

-- ---- a lent number, after Sizes

module _ (s : List ℕ) (value old : ℕ) where
  pub size_kept : bad_archive s ≡ true → old ≡ size_after s value old
  unfolding size_after sizes_answer
  size_kept bad = sym (after_refused old value (refused _ _ bad))

  pub size_told : bad_archive s ≡ false → {w : ℕ} → w ≡ value → w ≡ size_after s value old
  unfolding size_after sizes_answer
  size_told good e = e ∙ sym (after_done old value (passed _ _ good))

-- ---- the answer of Rows

pub rows_low : (z : Sizes) → Ranged z → z.places * z.m ≤ places_most * m_most
rows_low z R = mul-le-mul {n₂ = places_most} {m₂ = m_most} R.places_high R.m_high

-- by the sizes that were read
abbrev rows_for : (z : Sizes) (node : ℕ) (rows : List ℕ) → Outcome
rows_for z node rows = refuse (differs (length rows) (z.places * z.m)) Length (refuse (leb z.nodes node) NoSuchPlace done)

pub rows_answered : (s : List ℕ) {z : Sizes} → z ≡ sizes_of s → bad_archive s ≡ false → (node : ℕ) (rows : List ℕ) {o : Outcome}
    → o ≡ rows_for z node rows → o ≡ rows_answer s node rows
unfolding rows_answer
rows_answered s read good node rows e = e ∙ ap (λ (x : Sizes). rows_for x node rows) read ∙ sym (passed _ _ good)

-- ---- the row of one place

module _ (s : List ℕ) (node place : ℕ) {z : Sizes} (read : z ≡ sizes_of s) where
  -- its mark is one of those there are, and the record that it stands in lies in the archive
  module _ (good : bad_archive s ≡ false) (there : node < (sizes_of s).nodes) (within : place < (sizes_of s).places) where
    pub row_mark : place_number z node place < mark_count
    row_mark = number_mark z (read_sizes s read good) node place (rw read there) (rw read within)

    pub row_in_lem : record_start z (place_number z node place) + z.n + z.m ≤ length s
    row_in_lem =
        let low = number_low z (read_sizes s read good) node place (rw read there) (rw read within) in
        omega (arith, record_fits z (place_number z node place) low, read_length s read good)

  -- what the code writes for it
  row_is : (f : ℕ → ℕ) → ((i : ℕ) → f i ≡ stored_row z s node place i) → tab z.m f ≡ tab (sizes_of s).m (stored_row (sizes_of s) s node place)
  row_is f h =
      tab_same z.m f (stored_row z s node place) (λ i l. h i) ∙ ap (λ (x : Sizes). tab x.m (stored_row x s node place)) read

  pub row_stored : {t : List ℕ} {start : ℕ} → mark_at s (place_number z node place) ≡ true
      → start ≡ record_start z (place_number z node place) → t ≡ tab z.m (λ i. at s (start + z.n + i))
      → t ≡ tab (sizes_of s).m (stored_row (sizes_of s) s node place)
  unfolding stored_row byte_in
  row_stored marked q e = e ∙ row_is _ (λ i. rw (marked, q) (ap (at s) (omega arith)))

  pub row_empty : {t : List ℕ} → mark_at s (place_number z node place) ≡ false → t ≡ tab z.m (λ i. 0)
      → t ≡ tab (sizes_of s).m (stored_row (sizes_of s) s node place)
  unfolding stored_row
  row_empty marked e = e ∙ row_is _ (λ i. rw marked)

-- ---- the rows of all places, where nothing is refused

module _ (s : List ℕ) (node : ℕ) (rows : List ℕ) {z : Sizes} (done : Passed (rows_answer s node rows)) (read : z ≡ sizes_of s) where
  pub rows_good : bad_archive s ≡ false
  unfolding rows_answer
  rows_good = (accepted _ _ _ done).0

  rows_length : length rows ≡ z.places * z.m
  unfolding rows_answer
  rows_length = rw read (same _ _ (accepted _ _ _ (accepted _ _ _ done).1).0)

  pub rows_there : node < (sizes_of s).nodes
  unfolding rows_answer
  rows_there = leb-false _ _ (accepted _ _ _ (accepted _ _ _ (accepted _ _ _ done).1).1).0

  pub row_from : (place : ℕ) → place < z.places → place * z.m + z.m ≤ length rows
  row_from place l = omega (arith, mul-le-mul_right z.m l, rows_length)

  -- one row more, and all of them
  abbrev written : ℕ → List ℕ
  written place = grid place (sizes_of s).m 0 (stored_row (sizes_of s) s node) rows

  pub rows_more : (place : ℕ) {t u : List ℕ} → t ≡ written place → u ≡ put (sizes_of s).m (place * z.m) (stored_row (sizes_of s) s node place) t
      → u ≡ written (place + 1)
  rows_more place w e = e ∙ grid_more place _ 0 (stored_row (sizes_of s) s node) rows w (rw read (omega arith))

  pub rows_written : {place : ℕ} {t : List ℕ} → place ≡ z.places → t ≡ written place
      → t ≡ flat (sizes_of s).places (sizes_of s).m (stored_row (sizes_of s) s node)
  rows_written q e = e ∙ rw (q, read) (grid_all (sizes_of s).places (sizes_of s).m (stored_row (sizes_of s) s node) rows (rw (← read) rows_length))
