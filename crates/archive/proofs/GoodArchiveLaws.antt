-- What is known of an archive that is not bad. Assumes nothing.
use Prim.Native.Nat.{ℕ}
use mathlib.Core.Path.{◌≡◌}
use mathlib.Core.Bool.{false}
use mathlib.Core.List.{List}
use native.Mathlib.Omega.{arith}
use lib.ListN.{length, length-take, length-drop}
use Rattle.lists.proofs.AnyLaws.{none_at}
use Rattle.answer.proofs.RefusalLaws.{same}
use Rattle.sizes.specs.Lengths.{archive_length}
use Rattle.archive.specs.Layout.{sizes_of, id_of, bad_for, bad_archive}
use Rattle.sizes.proofs.SizeLaws.{Ranged, ranged}

module _ (s : List ℕ) (good : bad_archive s ≡ false) where
  pub good_sizes : Ranged (sizes_of s)
  unfolding bad_for
  good_sizes = ranged (sizes_of s) (none_at _ 1 good)

  pub good_length : length s ≡ archive_length (sizes_of s)
  unfolding bad_for
  good_length = same _ _ (none_at _ 5 good)

  pub good_id : length (id_of s) ≡ 8
  unfolding id_of
  good_id = simp (length-take, length-drop) (omega (arith, good_length))
