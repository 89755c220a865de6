-- The tags of a combination are the combinations of the tags. Assumes nothing.
use Prim.Native.Nat.{ℕ, ◌-◌}
use mathlib.Core.Path.{◌≡◌, refl}
use mathlib.Core.Bool.{Bool, true, false}
use lib.Dec.{ltb}
use Rattle.lists.specs.Lists.{pick}
use Rattle.field.specs.Field.{sum, times}
use Rattle.vector.specs.Vectors.{product, mixed}
use Rattle.vector.proofs.VectorLaws.{product_mixed}
use Rattle.tag.specs.KeyVector.{with_tags}

pub tags_combine : (len count : ℕ) (r : ℕ → ℕ) (v k : ℕ → ℕ → ℕ) (p : ℕ)
    → with_tags len k (mixed count r v) p ≡ mixed count r (λ i. with_tags len k (v i)) p
unfolding with_tags mixed
tags_combine len count r v k p = go (ltb p len)
  where
    go : (t : Bool) → pick t (sum count (λ i. times (r i) (v i p))) (product len (mixed count r v) (k (p - len)))
        ≡ sum count (λ i. times (r i) (pick t (v i p) (product len (v i) (k (p - len)))))
    go true = refl
    go false = product_mixed len count r v (k (p - len))
