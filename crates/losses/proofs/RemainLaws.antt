-- The places that remain when the nodes of a set are lost, and what the rank of their rows decides. Assumes nothing.
use Prim.Native.Nat.{ℕ, ◌/◌, ◌<◌}
use mathlib.Core.Path.{◌≡◌, ap, ◌∙◌}
use mathlib.Core.Bool.{Bool, false}
use mathlib.Core.List.{List}
use native.Mathlib.Omega.{arith}
use borrow.Author.Tests.{ltb-true, ltb-false}
use lib.Dec.{ltb}
use Rattle.lists.specs.Lists.{pick}
use Rattle.sizes.specs.declared.Sizes.{Sizes}
use Rattle.sizes.specs.Lengths.{place_count}
use Rattle.linear.specs.PrivateElimination.{Matrix, Reduces}
use Rattle.choice.specs.declared.Chosen.{Chosen}
use Rattle.choice.specs.PrivateChoice.{offered, listed_rows}
use Rattle.archive.specs.Layout.{mark_at}
use Rattle.archive.specs.Read.{row_in}
use Rattle.archive.specs.Losses.{in_set, remains, Hurts}
use Rattle.reading.proofs.ReadingLaws.{ChosenIn, chosen_alike, unreadable, readable}
use Rattle.losses.specs.PrivateSets.{Decides}

-- the choice among the places that remain, and the rank of the rows taken
module _ (z : Sizes) (s : List ℕ) (set : ℕ) (filled left : List Bool) (marks : (k : ℕ) → k < place_count z → offered filled k ≡ mark_at s k)
    (cleared : (k : ℕ) → k < place_count z → offered left k ≡ pick (in_set set (k / z.places)) false (offered filled k)) (c : Chosen)
    (chosen : ChosenIn z s (offered left) c) (t : Matrix) (rank : ℕ) (reduced : Reduces c.count z.m (listed_rows (row_in z s) c) t rank) where
  remaining : ChosenIn z s (remains z s set) c
  remaining = chosen_alike z s _ _ c (λ k h. cleared k h ∙ ap (pick (in_set set (k / z.places)) false) (marks k h)) chosen

  pub rank_decides : Decides (ltb rank z.m) (Hurts z s set)
  rank_decides = (
    λ e. unreadable z s (remains z s set) c remaining t rank reduced (ltb-true rank z.m e),
    λ e. readable z s (remains z s set) c remaining t rank reduced (omega (arith, ltb-false rank z.m e, reduced.at_most_columns)),
  )
