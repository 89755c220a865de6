-- What Lose leaves of any archive that is not bad. Assumes nothing.
use Prim.Native.Nat.{ℕ, ◌*◌, ◌/◌, ◌<◌}
use mathlib.Core.Path.{◌≡◌, refl, sym, ◌∙◌}
use mathlib.Core.Bool.{Bool, true, false, true≢false}
use mathlib.Core.List.{List}
use native.Mathlib.Nat.{add-zero}
use native.Mathlib.Omega.{arith}
use lib.Dec.{eqb}
use borrow.Author.Tests.{lt-leb}
use Rattle.lists.specs.Lists.{pick, over}
use Rattle.lists.proofs.OverLaws.{over_map, over_row}
use Rattle.answer.specs.Answer.{done}
use Rattle.answer.proofs.RefusalLaws.{passed, after_done}
use Rattle.sizes.specs.declared.Sizes.{Sizes}
use Rattle.sizes.specs.Lengths.{place_number}
use Rattle.sizes.proofs.SizeLaws.{Ranged}
use Rattle.sizes.proofs.PlaceLaws.{node_fits}
use Rattle.archive.specs.Layout.{sizes_of, bad_archive}
use Rattle.archive.specs.Lose.{lost}
use Rattle.archive.specs.Calls.{lose, answer_for, archive_answer, effect_for, archive_after}
use Rattle.archive.proofs.PartsLaws.{Parts, parts_alike, parts_stored, good_read}

-- what is filled without some nodes was filled, and is none of theirs
pub filled : (gone mark : Bool) → pick gone false mark ≡ true → (gone ≡ false) × (mark ≡ true)
filled true mark e = absurd (true≢false (sym e))
filled false mark e = (refl, e)

-- values by place number, one node's replaced: those of f there, of g elsewhere
pub over_node : {A : Type 0} (z : Sizes) → Ranged z → (node : ℕ) (f g : ℕ → A) (k : ℕ)
    → over (place_number z node 0) z.places (λ j. f (place_number z node j)) g k ≡ pick (eqb (k / z.places) node) (f k) (g k)
over_node z R node f g k = rw (add-zero (node * z.places)) (over_row z.places node f g k R.places_low)

-- the parts after a Lose
pub lost_parts : {z : Sizes} {s : List ℕ} {mark : ℕ → Bool} {rec : ℕ → ℕ → ℕ} {t : List ℕ} → Ranged z → Parts z s mark rec t
    → (node : ℕ) → node < z.nodes
    → Parts z s (λ k. pick (eqb (k / z.places) node) false (mark k)) (λ k p. pick (eqb (k / z.places) node) 0 (rec k p)) (lost z t node)
lost_parts {z} {mark = mark} {rec = rec} R w node there =
    parts_alike (parts_stored w (λ j. false) (place_number z node 0) z.places (λ j p. 0) (omega (arith, node_fits z node there)))
    (λ k h. over_node z R node (λ _. false) mark k)
    (λ k p h hp. over_map (λ (f : ℕ → ℕ). f p) _ _ _ rec k ∙ over_node z R node (λ _. 0) (λ j. rec j p) k)

-- the call's answer, and the archive after it
module _ (z : Sizes) (s : List ℕ) (good : bad_archive s ≡ false) (read : z ≡ sizes_of s) (node : ℕ) (there : node < z.nodes) where
  pub lose_done : archive_answer s (lose node) ≡ done
  unfolding archive_answer answer_for
  lose_done = rw (← read) (passed _ _ (good_read s read good) ∙ passed _ _ (lt-leb z.nodes node there))

  pub after_lose : archive_after s (lose node) ≡ lost z s node
  unfolding archive_after effect_for
  after_lose = after_done _ _ lose_done ∙ rw (← read)
