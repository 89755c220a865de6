-- A list of Lose calls: what is left. Assumes nothing.
use Prim.Native.Nat.{ℕ, suc, ◌/◌, ◌<◌}
use mathlib.Core.Path.{◌≡◌, refl, sym, ap, ap₂, subst, ◌∙◌}
use mathlib.Core.Bool.{Bool, true, false}
use mathlib.Core.List.{List, [], ◌∷◌}
use native.Mathlib.Omega.{arith}
use lib.Dec.{eqb}
use lib.ListN.{length}
use Rattle.lists.specs.Lists.{pick, at, holds}
use Rattle.lists.proofs.AnyLaws.{pick_same}
use Rattle.sizes.specs.declared.Sizes.{Sizes}
use Rattle.archive.specs.Layout.{sizes_of, bad_archive}
use Rattle.archive.specs.Lose.{lost}
use Rattle.archive.specs.Calls.{archive_answers, archive_run, all_done}
use Rattle.archive.proofs.CallLaws.{read_sizes}
use Rattle.archive.proofs.PartsLaws.{Parts, Tidy, Unused, parts_alike, parts_sizes, parts_good, stored_tidy}
use Rattle.archive.proofs.LostLaws.{lost_parts, lose_done, after_lose}
use Rattle.promise.specs.Losing.{loses}

-- one value in two cases
pub both : {A : Type 0} (a b : Bool) (x y : A) → pick a x (pick b x y) ≡ pick (pick b true a) x y
both a true x y = pick_same a x
both a false x y = refl

-- the front of s, and zero marks and records at these nodes
abbrev pub Without : (z : Sizes) (s nodes : List ℕ) (mark : ℕ → Bool) (rec : ℕ → ℕ → ℕ) (t : List ℕ) → Type 0
Without z s nodes mark rec t =
    Parts z s (λ k. pick (holds nodes (k / z.places)) false (mark k)) (λ k p. pick (holds nodes (k / z.places)) 0 (rec k p)) t

-- all calls are done, what is left is not bad, the marks and records of the nodes are zero, and marks that were bytes are bytes
pub record Run (z : Sizes) (s : List ℕ) (mark : ℕ → Bool) (rec : ℕ → ℕ → ℕ) (t nodes : List ℕ) : Type 0 where
  pub done : archive_answers t (loses nodes) ≡ all_done (loses nodes)
  pub good : bad_archive (archive_run t (loses nodes)) ≡ false
  pub sizes : z ≡ sizes_of (archive_run t (loses nodes))
  pub parts : Without z s nodes mark rec (archive_run t (loses nodes))
  pub tidy : Tidy t → Tidy (archive_run t (loses nodes))

module _ (z : Sizes) (s : List ℕ) (good : bad_archive s ≡ false) (read : z ≡ sizes_of s) where
  pub lose_run : {mark : ℕ → Bool} {rec : ℕ → ℕ → ℕ} {t : List ℕ} → Parts z s mark rec t → Unused z mark
      → (nodes : List ℕ) → ((j : ℕ) → j < length nodes → at nodes j < z.nodes) → Run z s mark rec t nodes
  lose_run w unused [] low = record { done = refl; good = parts_good s read good w unused; sizes = parts_sizes s read good w unused; parts = w; tidy = λ h. h }
  lose_run {mark} {rec} {t} w unused (node ∷ nodes) low =
      let there : node < z.nodes = low 0 (omega arith) in
      let fine : bad_archive t ≡ false = parts_good s read good w unused in
      let sizes : z ≡ sizes_of t = parts_sizes s read good w unused in
      let after = after_lose z t fine sizes node there in
      let here : (k : ℕ) → Bool = λ k. eqb (k / z.places) node in
      let rest =
      lose_run {mark = λ k. pick (here k) false (mark k)} {rec = λ k p. pick (here k) 0 (rec k p)} {t = lost z t node}
      (lost_parts (read_sizes s read good) w node there)
      (λ k l h. ap (pick (here k) false) (unused k l h) ∙ pick_same (here k) false) nodes (λ j h. low (suc j) (omega arith)) in
      record {
        done = ap₂ ◌∷◌ (lose_done z t fine sizes node there) (ap (λ (a : List ℕ). archive_answers a (loses nodes)) after ∙ rest.done);
        good = subst (λ (a : List ℕ). bad_archive (archive_run a (loses nodes)) ≡ false) (sym after) rest.good;
        sizes = subst (λ (a : List ℕ). z ≡ sizes_of (archive_run a (loses nodes))) (sym after) rest.sizes;
        parts = subst (λ (a : List ℕ). Without z s (node ∷ nodes) mark rec (archive_run a (loses nodes))) (sym after)
            (parts_alike rest.parts
            (λ k h. both (holds nodes (k / z.places)) (here k) false (mark k))
            (λ k p h hp. both (holds nodes (k / z.places)) (here k) 0 (rec k p)));
        tidy = λ h. subst (λ (a : List ℕ). Tidy (archive_run a (loses nodes))) (sym after)
            (rest.tidy (stored_tidy z _ _ _ _ t (omega (arith, w.size))));
      }
