-- What Lose's answer tells, and what it writes. Assumes nothing.
use Prim.Native.Nat.{ℕ, ◌+◌, ◌*◌, ◌<◌, ◌≤◌}
use mathlib.Core.Path.{◌≡◌, sym, ◌∙◌}
use mathlib.Core.Bool.{Bool, false}
use mathlib.Core.List.{List}
use native.Mathlib.Nat.{add-zero, mul-le-mul_right}
use native.Mathlib.Omega.{arith}
use lib.ListN.{length}
use borrow.Author.Tests.{leb-false}
use Rattle.lists.specs.Lists.{put, over}
use Rattle.lists.proofs.PutLaws.{length_put, grid_put}
use Rattle.answer.specs.Refusals.{Passed}
use Rattle.answer.proofs.RefusalLaws.{accepted}
use Rattle.sizes.specs.declared.Sizes.{Sizes}
use Rattle.sizes.specs.Sizes.{sizes_outside}
use Rattle.sizes.proofs.SizeLaws.{Ranged, not_sizes_outside}
use Rattle.sizes.specs.Lengths.{record_length, record_start}
use Rattle.archive.specs.Layout.{sizes_of, id_of, mark_at, bad_archive, with_marks, stored}
use Rattle.archive.specs.Calls.{lose, answer_for, archive_answer, effect_for}
use Rattle.sizes.proofs.PlaceLaws.{count_low, node_fits}
use Rattle.archive.proofs.GoodArchiveLaws.{good_sizes, good_length}

-- no marks, then zero records
lose_stores : (z : Sizes) (id s : List ℕ) (node : ℕ)
    → effect_for z id s (lose node)
    ≡ put (z.places * record_length z) (record_start z (node * z.places)) (λ i. 0) (with_marks (over (node * z.places) z.places (λ j. false) (mark_at s)) s)
unfolding effect_for stored
lose_stores z id s node = rw (add-zero (node * z.places)) (grid_put z.places (record_length z) (record_start z (node * z.places)) (λ i. 0) _)

module _ (s : List ℕ) (node : ℕ) {z : Sizes} (done : Passed (archive_answer s (lose node))) (sizes : z ≡ sizes_of s) where
  good : bad_archive s ≡ false
  unfolding archive_answer
  good = (accepted _ _ _ done).0

  there : node < z.nodes
  unfolding archive_answer answer_for
  there = rw sizes (leb-false _ _ (accepted _ _ _ (accepted _ _ _ done).1).0)

  pub lose_ranged : Ranged z
  lose_ranged = rw sizes (good_sizes s good)

  pub lose_sized : sizes_outside z ≡ false
  lose_sized = not_sizes_outside z lose_ranged

  -- the node's places are among those of the archive, and so are their records
  pub places_low : node * z.places + z.places ≤ 48
  places_low = omega (arith, node_fits z node there, count_low z lose_ranged)

  pub records_fit : (mark : ℕ → Bool) {t : List ℕ} {start len : ℕ} → t ≡ with_marks mark s → start ≡ record_start z (node * z.places) → len ≡ record_length z
      → start + z.places * len ≤ length t
  unfolding with_marks
  records_fit mark p q l =
      rw (p, q, l, length_put, good_length s good, ← sizes) (omega (arith, mul-le-mul_right (record_length z) (node_fits z node there)))

  pub long_enough : 18 ≤ length s
  long_enough = omega (arith, good_length s good)

  pub node_emptied : {t r : List ℕ} {start len : ℕ} → t ≡ with_marks (over (node * z.places) z.places (λ j. false) (mark_at s)) s
      → start ≡ record_start z (node * z.places) → len ≡ record_length z → r ≡ put (z.places * len) start (λ i. 0) t
      → r ≡ effect_for (sizes_of s) (id_of s) s (lose node)
  node_emptied p q l e = e ∙ rw (p, q, l, ← sizes) (sym (lose_stores z (id_of s) s node))
