-- Elimination tells the same of matrices that agree, and where the rank is m every vector is a combination of the rows. Assumes nothing.
use Prim.Native.Nat.{ℕ, ◌<◌}
use mathlib.Core.Path.{◌≡◌, sym, ◌∙◌}
use Rattle.vector.specs.Vectors.{product, mixed}
use Rattle.vector.proofs.TakenLaws.{Alike}
use Rattle.vector.proofs.VectorLaws.{mixed_mixed, mixed_vectors, product_same, product_keys}
use Rattle.linear.specs.PrivateElimination.{Matrix, BytesTo, Determining, Independent, Orthogonal, Vanishing, Reduces}
use Rattle.linear.specs.PrivateSteps.{Vec, unit_at}
use Rattle.linear.proofs.RowOperationLaws.{unit_byte}
use Rattle.linear.proofs.RankLaws.{by_unit}

module _ (k m : ℕ) (a b : Matrix) (same : Alike k m a b) where
  -- products with a row, and combinations of the rows
  row_same : (x : Vec) (j : ℕ) → j < k → product m (a j) x ≡ product m (b j) x
  row_same x j l = product_same m (a j) (b j) x (λ i h. same j i l h)

  sum_of_rows_same : (y : Vec) (c : ℕ) → c < m → mixed k y a c ≡ mixed k y b c
  sum_of_rows_same y c l = mixed_vectors k y a b c (λ i h. same i c h l)

  -- what is told of the one is told of the other
  pub determining_same : Determining k m a → Determining k m b
  determining_same d x bytes h = d x bytes (λ j l. row_same x j l ∙ h j l)

  pub independent_same : Independent k m a → Independent k m b
  independent_same d y bytes h = d y bytes (λ c l. sum_of_rows_same y c l ∙ h c l)

  pub orthogonal_same : Orthogonal k m a → Orthogonal k m b
  orthogonal_same w =
      record {
        x = w.x;
        bytes = w.bytes;
        one = w.one;
        one_there = w.one_there;
        one_not = w.one_not;
        zero_products = λ j l. sym (row_same w.x j l) ∙ w.zero_products j l;
      }

  pub vanishing_same : Vanishing k m a → Vanishing k m b
  vanishing_same w =
      record {
        y = w.y;
        bytes = w.bytes;
        one = w.one;
        one_there = w.one_there;
        one_not = w.one_not;
        zero_sums = λ c l. sym (sum_of_rows_same w.y c l) ∙ w.zero_sums c l;
      }

  pub reduces_same : (t : Matrix) (rank : ℕ) → Reduces k m a t rank → Reduces k m b t rank
  reduces_same t rank R =
      record {
        at_most_columns = R.at_most_columns;
        at_most_rows = R.at_most_rows;
        determining =
            (λ q. determining_same (R.determining.0 q), λ d. R.determining.1 (λ x bytes h. d x bytes (λ j l. sym (row_same x j l) ∙ h j l)));
        independent = (
          λ q. independent_same (R.independent.0 q),
          λ d. R.independent.1 (λ y bytes h. d y bytes (λ c l. sym (sum_of_rows_same y c l) ∙ h c l)),
        );
        blind = λ q. orthogonal_same (R.blind q);
        vanishing = λ q. vanishing_same (R.vanishing q);
        solution = λ q x d bytes low h. R.solution q x d bytes low (λ j l. row_same x j l ∙ h j l);
        solves = λ q r d low j l. sym (row_same _ j l) ∙ R.solves q r d low j l;
        rest = λ i c h l b. sym (sum_of_rows_same (t i) c b) ∙ R.rest i c h l b;
        whole = R.whole;
      }

-- rank m: v is a combination of the rows, as the unit vectors are
pub spans : (k m : ℕ) (a t : Matrix) (rank : ℕ) → Reduces k m a t rank → rank ≡ m → ((i j : ℕ) → i < k → j < m → a i j < 256) → (v : Vec) → BytesTo m v
    → (y : Vec) × ((i : ℕ) → i < m → v i ≡ mixed k y a i)
unfolding product mixed
spans k m a t rank R q low v bytes = (mixed m v t, λ i l. sym (by_unit m i v l (bytes i l)) ∙ product_keys m v (unit_at i) _ (unit i l) ∙ mixed_mixed m k v t a i)
  where
    unit : (i : ℕ) → i < m → (j : ℕ) → j < m → unit_at i j ≡ product k (t j) (λ r. a r i)
    unit i l = R.solution q (unit_at i) (λ r. a r i) (λ j h. unit_byte i j) (λ r h. low r i h l) (λ r h. by_unit m i (a r) l (low r i h l))
