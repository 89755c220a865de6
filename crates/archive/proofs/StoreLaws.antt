-- What is read after a store. Assumes nothing.
use Prim.Native.Nat.{ℕ, ◌+◌, ◌-◌, ◌*◌, ◌<◌, ◌≤◌}
use mathlib.Core.Path.{◌≡◌, sym, ap, ◌∙◌}
use mathlib.Core.Bool.{Bool}
use mathlib.Core.List.{List}
use mathlib.Core.Logic.{⊎_elim}
use native.Mathlib.Nat.{mul-le-mul_right}
use native.Mathlib.Omega.{arith}
use lib.ListN.{length}
use Rattle.lists.specs.Lists.{at, over}
use Rattle.lists.proofs.TabLaws.{order}
use Rattle.lists.proofs.PutLaws.{length_put, put_below, put_above, put_at, length_grid, grid_below, grid_above, grid_at}
use Rattle.lists.proofs.OverLaws.{over_within, over_below, over_above}
use Rattle.bits.specs.Fields.{packed}
use Rattle.sizes.specs.declared.Sizes.{Sizes}
use Rattle.sizes.specs.Lengths.{place_count, record_length, archive_length, record_start}
use Rattle.archive.specs.Layout.{mark_at, byte_in, with_marks, stored}

pub length_marks : (mark : ℕ → Bool) (s : List ℕ) → length (with_marks mark s) ≡ length s
unfolding with_marks
length_marks mark s = length_put 6 12 _ s

-- ---- what is read after a store

module _ (z : Sizes) (new : ℕ → Bool) (k count : ℕ) (rec : ℕ → ℕ → ℕ) (s : List ℕ) where
  -- the archive once its marks are written
  abbrev marked : List ℕ
  marked = with_marks (over k count new (mark_at s)) s

  pub length_stored : length (stored z new k count rec s) ≡ length s
  unfolding stored
  length_stored = length_grid count (record_length z) (record_start z k) rec marked ∙ length_marks _ s

  pub stored_front : (i : ℕ) → i < 12 → at (stored z new k count rec s) i ≡ at s i
  unfolding stored with_marks
  stored_front i h = grid_below count (record_length z) (record_start z k) rec marked i (omega arith) ∙ put_below 6 12 _ s i h

  pub stored_marks : 18 ≤ length s → (j : ℕ) → j < 6 → at (stored z new k count rec s) (12 + j) ≡ at (packed 6 (over k count new (mark_at s))) j
  unfolding stored with_marks
  stored_marks long j h =
      grid_below count (record_length z) (record_start z k) rec marked (12 + j) (omega arith) ∙ put_at 6 12 _ s j h (omega arith)

  kept : (i p : ℕ) → at marked (record_start z i + p) ≡ at s (record_start z i + p)
  unfolding with_marks
  kept i p = put_above 6 12 _ s (record_start z i + p) (omega arith)

  pub stored_byte : k + count ≤ place_count z → length s ≡ archive_length z → (i p : ℕ) → p < record_length z
      → byte_in z (stored z new k count rec s) i p ≡ over k count (λ j. rec j p) (λ j. byte_in z s j p) i
  unfolding stored byte_in
  stored_byte fits long i p hp =
      let ends : record_start z k + count * record_length z ≤ archive_length z = omega (arith, mul-le-mul_right (record_length z) fits) in
      ⊎_elim
      (λ (l : i < k).
      grid_below count (record_length z) (record_start z k) rec marked (record_start z i + p) (omega (arith, mul-le-mul_right (record_length z) l))
      ∙ kept i p ∙ sym (over_below k count _ _ i l))
      (λ (m : k ≤ i).
      ⊎_elim
      (λ (l : i < k + count).
      let q : i ≡ k + (i - k) = omega arith in
      let r : record_start z i + p ≡ record_start z k + (i - k) * record_length z + p = ap (λ (x : ℕ). record_start z x + p) q ∙ omega arith in
      rw r (grid_at count (record_length z) (record_start z k) rec marked (i - k) p (omega arith) hp (omega (arith, length_marks (over k count new (mark_at s)) s)))
      ∙ sym (over_within k count _ _ i m l))
      (λ (l : k + count ≤ i).
      grid_above count (record_length z) (record_start z k) rec marked (record_start z i + p) (omega (arith, mul-le-mul_right (record_length z) l))
      ∙ kept i p ∙ sym (over_above k count _ _ i l))
      (order i (k + count)))
      (order i k)
