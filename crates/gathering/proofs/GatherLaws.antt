-- What Gather's answer tells, and what it writes. Assumes nothing.
use Prim.Native.Nat.{ℕ, ◌+◌, ◌-◌, ◌*◌, ◌<◌, ◌≤◌}
use mathlib.Core.Path.{◌≡◌, refl, sym, ap, ◌∙◌}
use mathlib.Core.Bool.{Bool, false}
use mathlib.Core.List.{List, [], ◌∷◌}
use native.Mathlib.Nat.{add-zero}
use native.Mathlib.Omega.{arith}
use lib.ListN.{length}
use borrow.Author.Tests.{leb-false}
use Rattle.lists.specs.Lists.{at, put, over, any_of}
use Rattle.lists.proofs.PutLaws.{grid_same, grid_put}
use Rattle.lists.proofs.OverLaws.{over_none, over_more, over_same}
use Rattle.lists.proofs.AnyLaws.{none_at, any_skip, any_last}
use Rattle.answer.specs.Answer.{Outcome}
use Rattle.answer.specs.Refusals.{Passed}
use Rattle.answer.proofs.RefusalLaws.{passed, accepted}
use Rattle.sizes.specs.declared.Sizes.{Sizes}
use Rattle.sizes.specs.Sizes.{sizes_outside}
use Rattle.sizes.specs.Lengths.{mark_count, record_length, record_start}
use Rattle.sizes.proofs.SizeLaws.{Ranged, not_sizes_outside}
use Rattle.sizes.proofs.PlaceLaws.{marks_in, node_in}
use Rattle.archive.specs.Layout.{sizes_of, mark_at, filled_in, byte_in, bad_archive, with_marks, stored}
use Rattle.archive.specs.Gather.{other_archive, gather_for, gather_answer, gathered}
use Rattle.archive.proofs.GoodArchiveLaws.{good_length}
use Rattle.archive.proofs.StoreLaws.{length_marks}
use Rattle.archive.proofs.CallLaws.{read_sizes, read_length}
use Rattle.archive.proofs.GatheredLaws.{same_sizes}
use Rattle.archive.proofs.MarkLaws.{marks_same, mark_written, marks_again, marks_own}

-- ---- the answer, by the sizes that were read

none_bad : {a b c : Bool} → a ≡ false → b ≡ false → c ≡ false → any_of (a ∷ b ∷ c ∷ []) ≡ false
none_bad p q r = any_skip _ _ p ∙ any_skip _ _ q ∙ any_last _ ∙ r

pub gather_answered : (archive share : List ℕ) {z : Sizes} → z ≡ sizes_of archive → bad_archive archive ≡ false → bad_archive share ≡ false
    → other_archive archive share ≡ false → (node : ℕ) {o : Outcome} → o ≡ gather_for z (filled_in z archive) node → o ≡ gather_answer archive share node
unfolding gather_answer
gather_answered archive share read good share_good begins node e =
    e ∙ ap (λ (x : Sizes). gather_for x (filled_in x archive) node) read ∙ sym (passed _ _ (none_bad good share_good begins))

-- ---- the marks of the places from k on, one after the other

module _ (archive share : List ℕ) (k : ℕ) where
  abbrev pub copied : ℕ → List ℕ
  copied count = with_marks (over k count (λ j. mark_at share (k + j)) (mark_at archive)) archive

  pub copied_none : 18 ≤ length archive → ((i : ℕ) → at archive i < 256) → archive ≡ copied 0
  copied_none long low =
      marks_own archive long low ∙ marks_same (mark_at archive) _ archive (λ i h. sym (over_none k (λ j. mark_at share (k + j)) (mark_at archive) i))

  copied_step : 18 ≤ length archive → (j : ℕ) {t u : List ℕ} {v : Bool} → t ≡ copied j → v ≡ mark_at share (k + j)
      → u ≡ with_marks (over (k + j) 1 (λ i. v) (mark_at t)) t → u ≡ copied (j + 1)
  copied_step long j e w made =
      made
      ∙ rw (e, w)
      (marks_again archive long _ _
      ∙ marks_same _ _ archive (λ i h.
      over_same (k + j) 1 _ _ (mark_at (copied j)) _ i (λ l b. refl) (mark_written archive long _ i h)
      ∙ over_more k j (λ l. mark_at share (k + l)) (mark_at archive) i))

  pub copied_more : 18 ≤ length archive → {place : ℕ} → k ≤ place → {t u : List ℕ} {v : Bool} → t ≡ copied (place - k) → v ≡ mark_at share place
      → u ≡ with_marks (over place 1 (λ i. v) (mark_at t)) t → u ≡ copied (place - k + 1)
  copied_more long {place} past {t} {u} {v} e w made =
      let q : k + (place - k) ≡ place = omega arith in
      copied_step long (place - k) {t = t} {u = u} {v = v} e (rw q w) (rw q made)

-- ---- the node's marks, then its records

gather_stores : (z : Sizes) (archive share : List ℕ) (node : ℕ)
    → gathered z archive share node
    ≡ put (z.places * record_length z) (record_start z (node * z.places)) (λ i. at share (record_start z (node * z.places) + i))
    (copied archive share (node * z.places) z.places)
unfolding stored byte_in
gather_stores z archive share node =
    let start : ℕ = record_start z (node * z.places) in
    rw (add-zero (node * z.places))
    (grid_same z.places (record_length z) start _ (λ t p. at share (start + (t * record_length z + p))) _ (λ t p h hp. ap (at share) (omega arith))
    ∙ grid_put z.places (record_length z) start (λ i. at share (start + i)) _)

module _ (archive share : List ℕ) (node : ℕ) {z : Sizes} (done : Passed (gather_answer archive share node)) (read : z ≡ sizes_of archive) where
  none : any_of (bad_archive archive ∷ bad_archive share ∷ other_archive archive share ∷ []) ≡ false
  unfolding gather_answer
  none = (accepted _ _ _ done).0

  good : bad_archive archive ≡ false
  good = none_at _ 0 none

  share_good : bad_archive share ≡ false
  share_good = none_at _ 1 none

  -- the share has the archive's sizes
  share_read : z ≡ sizes_of share
  share_read = read ∙ same_sizes archive share (none_at _ 2 none)

  there : node < z.nodes
  unfolding gather_answer
  there = rw read (leb-false _ _ (accepted _ _ _ (accepted _ _ _ done).1).0)

  pub gather_ranged : Ranged z
  gather_ranged = read_sizes archive read good

  pub gather_sized : sizes_outside z ≡ false
  gather_sized = not_sizes_outside z gather_ranged

  pub long_enough : 18 ≤ length archive
  long_enough = omega (arith, good_length archive good)

  pub share_long : 18 ≤ length share
  share_long = omega (arith, good_length share share_good)

  -- the node's places are among those that have marks, and their records lie in the archive and in the share
  pub places_low : node * z.places + z.places ≤ mark_count
  places_low = marks_in z gather_ranged node there

  module _ {start len : ℕ} (starts : start ≡ record_start z (node * z.places)) (measures : len ≡ record_length z) where
    pub share_fits : start + z.places * len ≤ length share
    share_fits = rw (starts, measures, read_length share share_read share_good) (node_in z node there)

    pub records_fit : (mark : ℕ → Bool) {t : List ℕ} → t ≡ with_marks mark archive → start + z.places * len ≤ length t
    records_fit mark e = rw (starts, measures, e, length_marks mark archive, read_length archive read good) (node_in z node there)

    pub node_gathered : {t r : List ℕ} → t ≡ copied archive share (node * z.places) z.places → r ≡ put (z.places * len) start (λ i. at share (start + i)) t
        → r ≡ gathered (sizes_of archive) archive share node
    node_gathered p e = e ∙ rw (p, starts, measures, ← read) (sym (gather_stores z archive share node))
