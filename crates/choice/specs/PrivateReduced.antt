-- What the private contracts cite of rows that were reduced: they span what the rows taken span, and clear a further row.
use Rattle.std.specs.Prelude.{ℕ, ◌<◌, ◌≤◌, ◌≡◌, ◌⊎◌, ◌≢◌}
use Rattle.field.specs.Field.{plus, times, inverse_of}
use Rattle.vector.specs.Taken.{Spanned}
use Rattle.linear.specs.PrivateElimination.{Matrix}

-- row p is zero, or has its pivot, the first element that is not zero, at index p, and that is a one
pub record Echelon (m : ℕ) (e : Matrix) : Type 0 where
  pub bytes : (p i : ℕ) → p < m → i < m → e p i < 256
  pub before : (p i : ℕ) → p < m → i < p → e p i ≡ 0
  pub lead : (p : ℕ) → p < m → (e p p ≡ 1) ⊎ ((i : ℕ) → i < m → e p i ≡ 0)

-- the rows e span what the first k rows a span
pub record Basis (k m : ℕ) (a e : Matrix) : Type 0 where
  pub echelon : Echelon m e
  pub made : (p : ℕ) → p < m → Spanned k m a (e p)
  pub spans : (j : ℕ) → j < k → Spanned m m e (a j)

-- v and a combination of the rows e, added: zero at their pivots, of the first n indices
pub record Cleared (n m : ℕ) (e : Matrix) (v out : ℕ → ℕ) : Type 0 where
  pub bytes : (i : ℕ) → i < m → out i < 256
  pub added : Spanned m m e (λ i. plus (v i) (out i))
  pub clear : (p : ℕ) → p < n → e p p ≡ 1 → out p ≡ 0

-- p is the pivot of a row of m elements, m where all are zero
pub record Pivot (m : ℕ) (v : ℕ → ℕ) (p : ℕ) : Type 0 where
  pub low : p ≤ m
  pub zeros : (i : ℕ) → i < p → v i ≡ 0
  pub here : p < m → v p ≢ 0

-- row p is v over its element p, the other rows stay
pub record Extended (p : ℕ) (e : Matrix) (v : ℕ → ℕ) (out : Matrix) : Type 0 where
  pub new : (i : ℕ) → i < 16 → out p i ≡ times (inverse_of (v p)) (v i)
  pub old : (q i : ℕ) → q ≢ p → out q i ≡ e q i
