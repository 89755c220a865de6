-- What is a combination of k rows: zero, each row, sums and multiples of such, combinations of such; what is orthogonal to it. Assumes nothing.
use Prim.Native.Nat.{ℕ, zero, suc, ◌<◌}
use mathlib.Core.Path.{◌≡◌, refl, sym, ap, ap₂, ◌∙◌}
use mathlib.Core.Bool.{Bool}
use native.Mathlib.Omega.{arith}
use lib.Dec.{eqb}
use borrow.Author.Tests.{eq-eqb, ne_eqb}
use Rattle.lists.specs.Lists.{pick}
use Rattle.field.specs.Field.{plus, times}
use Rattle.field.proofs.SumLaws.{sum_none, sum_last, sum_same, sum_zero, sum_one, sum_plus}
use Rattle.field.proofs.TimesLaws.{times_xor_left, zero_times, times_zero, one_times}
use Rattle.vector.specs.Vectors.{product, mixed}
use Rattle.vector.specs.Taken.{Spanned}
use Rattle.vector.proofs.VectorLaws.{mixed_scale, mixed_vectors, mixed_zero, product_same, product_mixed}

-- rows that agree
pub spanned_rows : (k m : ℕ) (row row' : ℕ → ℕ → ℕ) {v : ℕ → ℕ} → ((j i : ℕ) → j < k → i < m → row j i ≡ row' j i) → Spanned k m row v → Spanned k m row' v
spanned_rows k m row row' h s = (s.0, λ i l. s.1 i l ∙ mixed_vectors k s.0 row row' i (λ j b. h j i b l))

module _ (k m : ℕ) (row : ℕ → ℕ → ℕ) where
  pub spanned_same : {v w : ℕ → ℕ} → ((i : ℕ) → i < m → w i ≡ v i) → Spanned k m row v → Spanned k m row w
  spanned_same h s = (s.0, λ i l. h i l ∙ s.1 i l)

  pub spanned_zero : {v : ℕ → ℕ} → ((i : ℕ) → i < m → v i ≡ 0) → Spanned k m row v
  spanned_zero h = (λ j. 0, λ i l. h i l ∙ sym (mixed_zero k row i))

  pub spanned_plus : {v w : ℕ → ℕ} → Spanned k m row v → Spanned k m row w → Spanned k m row (λ i. plus (v i) (w i))
  unfolding mixed
  spanned_plus s t = (
    λ j. plus (s.0 j) (t.0 j),
    λ i l. ap₂ plus (s.1 i l) (t.1 i l) ∙ sym (sum_same k _ _ (λ j b. times_xor_left (s.0 j) (t.0 j) (row j i)) ∙ sum_plus k _ _),
  )

  pub spanned_scale : (c : ℕ) {v : ℕ → ℕ} → Spanned k m row v → Spanned k m row (λ i. times c (v i))
  spanned_scale c s = (λ j. times c (s.0 j), λ i l. ap (times c) (s.1 i l) ∙ mixed_scale c k s.0 row i)

  pub spanned_row : (j : ℕ) → j < k → ((i : ℕ) → i < m → row j i < 256) → Spanned k m row (row j)
  unfolding mixed
  spanned_row j h bytes = (λ p. pick (eqb p j) 1 0, λ i l. sym (made i l))
    where
      made : (i : ℕ) → i < m → mixed k (λ p. pick (eqb p j) 1 0) row i ≡ row j i
      made i l =
          sum_one k j (λ p. times (pick (eqb p j) 1 0) (row p i)) h
          (λ p b d. ap (λ (t : Bool). times (pick t 1 0) (row p i)) (ne_eqb p j d) ∙ zero_times (row p i))
          ∙ ap (λ (t : Bool). times (pick t 1 0) (row j i)) (eq-eqb j j refl) ∙ one_times (bytes i l)

  -- a combination of combinations
  spanned_mixed : (n : ℕ) (c : ℕ → ℕ) (a : ℕ → ℕ → ℕ) → ((j : ℕ) → j < n → Spanned k m row (a j)) → Spanned k m row (mixed n c a)
  unfolding mixed
  spanned_mixed zero c a h = spanned_zero (λ i l. sym (sum_none _))
  spanned_mixed (suc n) c a h =
      spanned_same (λ i l. sum_last n (λ j. times (c j) (a j i)))
      (spanned_plus (spanned_mixed n c a (λ j l. h j (omega arith))) (spanned_scale (c n) (h n (omega arith))))

  pub spanned_through : (n : ℕ) (a : ℕ → ℕ → ℕ) {v : ℕ → ℕ} → ((j : ℕ) → j < n → Spanned k m row (a j)) → Spanned n m a v → Spanned k m row v
  spanned_through n a h s = spanned_same s.1 (spanned_mixed n s.0 a h)

  -- a vector that is orthogonal to the rows is orthogonal to their combinations
  pub spanned_orthogonal : (x : ℕ → ℕ) → ((j : ℕ) → j < k → product m (row j) x ≡ 0) → {v : ℕ → ℕ} → Spanned k m row v → product m v x ≡ 0
  spanned_orthogonal x zeros s =
      product_same m _ _ x s.1 ∙ product_mixed m k s.0 row x ∙ sum_zero k _ (λ j l. ap (times (s.0 j)) (zeros j l) ∙ times_zero (s.0 j))
