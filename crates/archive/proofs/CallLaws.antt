-- The answer of a call as its check finds it, and the archive after that answer. Assumes nothing.
use mathlib.Core.Path.{◌≡◌, sym, ap, ◌∙◌}
use mathlib.Core.Bool.{false}
use Prim.Native.Nat.{ℕ}
use mathlib.Core.List.{List}
use lib.ListN.{length}
use Rattle.answer.specs.Answer.{Outcome}
use Rattle.answer.proofs.RefusalLaws.{passed}
use Rattle.sizes.specs.declared.Sizes.{Sizes}
use Rattle.sizes.proofs.SizeLaws.{Ranged}
use Rattle.sizes.specs.Lengths.{archive_length}
use Rattle.archive.specs.Layout.{sizes_of, filled_in, bad_archive}
use Rattle.archive.specs.Calls.{Call, answer_for, archive_answer}
use Rattle.archive.proofs.GoodArchiveLaws.{good_sizes, good_length}

-- the sizes as they were read
module _ (s : List ℕ) {z : Sizes} (read : z ≡ sizes_of s) (good : bad_archive s ≡ false) where
  pub read_sizes : Ranged z
  read_sizes = rw read (good_sizes s good)

  pub read_length : length s ≡ archive_length z
  read_length = rw read (good_length s good)

  pub answered : (c : Call) {o : Outcome} → o ≡ answer_for z (filled_in z s) c → o ≡ archive_answer s c
  unfolding archive_answer
  answered c e = e ∙ ap (λ (x : Sizes). answer_for x (filled_in x s) c) read ∙ sym (passed _ _ good)
