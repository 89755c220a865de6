-- Losses lists what Lose and then Read would show. Assumes nothing.
use Prim.Native.Nat.{ℕ, ◌/◌, ◌<◌}
use mathlib.Core.Path.{◌≡◌, refl, sym, ap, subst, ◌∙◌}
use mathlib.Core.Bool.{true, false}
use mathlib.Core.List.{List}
use mathlib.Core.Logic.{⊎_elim, ◌↔◌}
use native.Mathlib.Omega.{arith}
use lib.ListN.{length}
use Rattle.lists.specs.Lists.{holds}
use Rattle.answer.specs.Answer.{Counted, Ok, Err}
use Rattle.answer.specs.Numbers.{answer_number}
use Rattle.answer.specs.Numbers.{refusal_number}
use Rattle.answer.proofs.RefusalLaws.{passed, accepted, differs_same, never_both}
use Rattle.sizes.specs.declared.Sizes.{Sizes}
use Rattle.sizes.specs.Lengths.{place_count, record_length, file_length}
use Rattle.sizes.proofs.SizeLaws.{Ranged}
use Rattle.sizes.proofs.PlaceLaws.{node_of, count_low}
use Rattle.archive.specs.Layout.{sizes_of, mark_at, byte_in, bad_archive}
use Rattle.archive.specs.Calls.{archive_run}
use Rattle.archive.specs.Read.{row_in, Blind, ReadFor, ReadAllows}
use Rattle.archive.specs.Losses.{nodes_in, SetOf, remains, Hurts, Stands, LossesAllows}
use Rattle.archive.proofs.GoodArchiveLaws.{good_sizes, good_length}
use Rattle.archive.proofs.ReadLaws.{blind_same}
use Rattle.archive.proofs.SetLaws.{nodes_hold, nodes_low}
use Rattle.archive.proofs.PartsLaws.{parts_own, good_unused}
use Rattle.archive.proofs.LostLaws.{filled}
use Rattle.promise.specs.Losing.{loses, LossesAreReads}
use Rattle.promise.proofs.LoseRunLaws.{Without, Run, lose_run}

module _ (s lent sets : List ℕ) (k count set : ℕ) (w : LossesAllows s k lent (Ok count) sets) (of : SetOf (sizes_of s) k set) where
  abbrev z : Sizes
  z = sizes_of s

  -- the archive without the nodes of the set
  abbrev t : List ℕ
  t = archive_run s (loses (nodes_in set))

  good : bad_archive s ≡ false
  good = (accepted _ _ _ w.0).0

  run : Run z s (mark_at s) (byte_in z s) s (nodes_in set)
  run = lose_run z s good refl (parts_own z s (good_length s good)) (good_unused s refl good) (nodes_in set) (nodes_low z.nodes set of.0)

  left : Without z s (nodes_in set) (mark_at s) (byte_in z s) t
  left = run.parts

  mark_is : (p : ℕ) → p < place_count z → mark_at t p ≡ remains z s set p
  mark_is p h =
      let R : Ranged z = good_sizes s good in
      left.marks p (omega (arith, count_low z R)) ∙ rw (nodes_hold set (p / z.places) (omega (arith, node_of z R p h, R.nodes_high)))

  -- a place that is still filled holds what it held
  byte_is : (p q : ℕ) → p < place_count z → q < record_length z → mark_at t p ≡ true → byte_in z t p q ≡ byte_in z s p q
  byte_is p q h hq e =
      let stays : holds (nodes_in set) (p / z.places) ≡ false =
      (filled (holds (nodes_in set) (p / z.places)) (mark_at s p) (sym (left.marks p (omega (arith, count_low z (good_sizes s good)))) ∙ e)).0 in
      left.bytes p q h hq ∙ rw stays

  to_set : Blind z (mark_at t) (row_in z t) → Hurts z s set
  to_set = blind_same z _ _ _ _ mark_is (λ p i h e hi. byte_is p _ h (omega arith) (mark_is p h ∙ e))

  to_archive : Hurts z s set → Blind z (mark_at t) (row_in z t)
  to_archive = blind_same z _ _ _ _ (λ p h. sym (mark_is p h)) (λ p i h e hi. sym (byte_is p _ h (omega arith) e))

  -- what is claimed of an answer of Read
  abbrev Shown : Counted → Type 0
  Shown answer = ((answer_number answer ≡ 8) ↔ Stands count sets set) × ((¬ Stands count sets set) → answer_number answer ≡ 0)

  hurts : Stands count sets set → Hurts z s set
  hurts (j, h, e) = subst (Hurts z s) e (w.1.only j h).1

  read : (out : List ℕ) (answer : Counted) (file : List ℕ) → length out ≡ file_length z → ReadAllows t out answer file → Shown answer
  read out answer file long allows = go answer (subst (λ (x : Sizes). ReadFor x t out answer file) (sym run.sizes) allows)
    where
      go : (answer : Counted) → ReadFor z t out answer file → Shown answer
      go (Ok c) r = ((λ e. absurd (omega arith), λ stands. absurd (r.1 (to_archive (hurts stands)))), λ n. refl)
      go (Err refusal) r =
          ⊎_elim
          (λ x. absurd (never_both (passed _ _ run.good ∙ passed _ _ (differs_same long)) x))
          (λ x.
          let stands : Stands count sets set = w.1.every set of (to_set x.2) in
          ((λ e. stands, λ _. ap refusal_number x.1), λ n. absurd (n stands)))
          r.1

pub losses_are_reads : LossesAreReads
losses_are_reads s lent sets k count set w of = ((run s lent sets k count set w of).done, read s lent sets k count set w of)
