-- What Gather makes of an archive and a share that have their front from one archive that is not bad. Assumes nothing.
use Prim.Native.Nat.{ℕ, ◌/◌, ◌<◌}
use mathlib.Core.Path.{◌≡◌, sym, ap, ◌∙◌}
use mathlib.Core.Bool.{Bool, false}
use mathlib.Core.List.{List}
use native.Mathlib.Omega.{arith}
use lib.Dec.{eqb}
use borrow.Author.Tests.{lt-leb}
use Rattle.lists.specs.Lists.{pick, at}
use Rattle.lists.proofs.OverLaws.{over_map}
use Rattle.lists.proofs.AnyLaws.{any_below_lem, any_skip, any_last, any_none}
use Rattle.answer.specs.Answer.{done}
use Rattle.answer.proofs.RefusalLaws.{passed, after_done, same, differs_same}
use Rattle.sizes.specs.declared.Sizes.{Sizes}
use Rattle.sizes.specs.Lengths.{place_number}
use Rattle.sizes.proofs.SizeLaws.{Ranged}
use Rattle.sizes.proofs.PlaceLaws.{number_mark, node_fits}
use Rattle.archive.specs.Layout.{sizes_of, mark_at, filled_in, byte_in, bad_archive}
use Rattle.archive.specs.Gather.{other_archive, gather_for, gather_answer, gathered, gather_after}
use Rattle.archive.proofs.PartsLaws.{Parts, Unused, parts_alike, parts_stored, parts_sizes, parts_good, front_sizes}
use Rattle.archive.proofs.CallLaws.{read_sizes}
use Rattle.archive.proofs.LostLaws.{over_node}

-- a share that begins as the archive does is of the same sizes
pub same_sizes : (a b : List ℕ) → other_archive a b ≡ false → sizes_of a ≡ sizes_of b
unfolding other_archive
same_sizes a b begins = front_sizes b a (λ i h. same _ _ (any_below_lem 12 _ begins i h))

-- equal bytes ahead of the marks
pub same_front : (a b : List ℕ) → ((i : ℕ) → i < 12 → at a i ≡ at b i) → other_archive a b ≡ false
unfolding other_archive
same_front a b e = any_none 12 _ (λ i h. differs_same (e i h))

module _ (s : List ℕ) {z : Sizes} (read : z ≡ sizes_of s) (good : bad_archive s ≡ false) {mark mark' : ℕ → Bool} {rec rec' : ℕ → ℕ → ℕ} {a b : List ℕ}
    (w : Parts z s mark rec a) (w' : Parts z s mark' rec' b) (unused : Unused z mark) (unused' : Unused z mark') (node : ℕ) (there : node < z.nodes) where
  R : Ranged z
  R = read_sizes s read good

  abbrev here : ℕ → Bool
  here k = eqb (k / z.places) node

  pub gathered_parts : Parts z s (λ k. pick (here k) (mark' k) (mark k)) (λ k p. pick (here k) (rec' k p) (rec k p)) (gathered z a b node)
  gathered_parts =
      parts_alike
      (parts_stored w (filled_in z b node) (place_number z node 0) z.places (λ place. byte_in z b (place_number z node place)) (omega (arith, node_fits z node there)))
      (λ k h. over_node z R node (mark_at b) mark k ∙ ap (λ (x : Bool). pick (here k) x (mark k)) (w'.marks k h))
      (λ k p h hp.
      over_map (λ (f : ℕ → ℕ). f p) _ _ _ rec k ∙ over_node z R node (λ j. byte_in z b j p) (λ j. rec j p) k
      ∙ ap (λ (x : ℕ). pick (here k) x (rec k p)) (w'.bytes k p h hp))

  -- the node's places are empty in the archive
  module _ (empty : (place : ℕ) → place < z.places → mark (place_number z node place) ≡ false) where
    for_read : gather_for z (filled_in z a) node ≡ done
    for_read =
        passed _ _ (lt-leb z.nodes node there)
        ∙ passed _ _ (any_none z.places _ (λ place h. w.marks (place_number z node place) (number_mark z R node place there h) ∙ empty place h))

    pub gather_done : gather_answer a b node ≡ done
    unfolding gather_answer
    gather_done =
        passed _ _
        (any_skip _ _ (parts_good s read good w unused) ∙ any_skip _ _ (parts_good s read good w' unused') ∙ any_last _
        ∙ same_front a b (λ i h. w.front i h ∙ sym (w'.front i h)))
        ∙ ap (λ (x : Sizes). gather_for x (filled_in x a) node) (sym (parts_sizes s read good w unused)) ∙ for_read

    pub after_gather : gather_after a b node ≡ gathered z a b node
    unfolding gather_after
    after_gather = after_done _ _ gather_done ∙ ap (λ (x : Sizes). gathered x a b node) (sym (parts_sizes s read good w unused))
