-- What elimination tells of k rows of m elements. A matrix is a function of row and column, both counted from 0.
use Rattle.std.specs.Prelude.{ℕ, suc, ◌<◌, ◌≤◌, ◌≡◌, ◌↔◌, ◌≢◌, List, [], get_or}
use Rattle.lists.specs.Lists.{at}
use Rattle.vector.specs.Vectors.{product, mixed}
use Rattle.vector.specs.Taken.{Spanned}

abbrev pub Matrix : Type 0
Matrix = ℕ → ℕ → ℕ

-- the matrix of an array of arrays
abbrev pub cells : List (List ℕ) → Matrix
cells a i j = at (get_or a i []) j

-- rows and columns exchanged
abbrev pub turned : Matrix → Matrix
turned a i j = a j i

-- the first k elements are bytes
abbrev pub BytesTo : (k : ℕ) (x : ℕ → ℕ) → Type 0
BytesTo k x = (i : ℕ) → i < k → x i < 256

-- only the zero vector of m elements is orthogonal to all k rows
abbrev pub Determining : (k m : ℕ) (a : Matrix) → Type 0
Determining k m a = (x : ℕ → ℕ) → BytesTo m x → ((j : ℕ) → j < k → product m (a j) x ≡ 0) → (i : ℕ) → i < m → x i ≡ 0

-- only the combination of zeros of the k rows vanishes
abbrev pub Independent : (k m : ℕ) (a : Matrix) → Type 0
Independent k m a = (y : ℕ → ℕ) → BytesTo k y → ((c : ℕ) → c < m → mixed k y a c ≡ 0) → (j : ℕ) → j < k → y j ≡ 0

-- a non-zero vector of m bytes that is orthogonal to all k rows
pub record Orthogonal (k m : ℕ) (a : Matrix) : Type 0 where
  pub x : ℕ → ℕ
  pub bytes : BytesTo m x
  pub one : ℕ
  pub one_there : one < m
  pub one_not : x one ≢ 0
  pub zero_products : (j : ℕ) → j < k → product m (a j) x ≡ 0

-- a combination of the k rows that vanishes and is not that of zeros
pub record Vanishing (k m : ℕ) (a : Matrix) : Type 0 where
  pub y : ℕ → ℕ
  pub bytes : BytesTo k y
  pub one : ℕ
  pub one_there : one < k
  pub one_not : y one ≢ 0
  pub zero_sums : (c : ℕ) → c < m → mixed k y a c ≡ 0

-- the rank of k rows, as far as it decides something (whether it is m, whether it is k), and k combinations t of them: those past the rank
-- vanish, and where it is m they solve for a vector
pub record Reduces (k m : ℕ) (a t : Matrix) (rank : ℕ) : Type 0 where
  -- so a rank that is not m, or not k, is below it
  pub at_most_columns : rank ≤ m
  pub at_most_rows : rank ≤ k
  pub determining : (rank ≡ m) ↔ Determining k m a
  pub independent : (rank ≡ k) ↔ Independent k m a
  -- rank below m: some non-zero vector is orthogonal to every row
  pub blind : rank < m → Orthogonal k m a
  -- rank below k: some combination vanishes
  pub vanishing : rank < k → Vanishing k m a
  -- rank m: what solves the rows' equations is t's combination of their right sides
  pub solution : rank ≡ m → (x d : ℕ → ℕ) → BytesTo m x → BytesTo k d → ((j : ℕ) → j < k → product m (a j) x ≡ d j)
      → (i : ℕ) → i < m → x i ≡ product k (t i) d
  -- rank m of m rows: and that combination does solve them
  pub solves : rank ≡ m → k ≡ m → (d : ℕ → ℕ) → BytesTo k d → (j : ℕ) → j < k → product m (a j) (λ i. product k (t i) d) ≡ d j
  -- a combination past the rank vanishes
  pub rest : (i c : ℕ) → rank ≤ i → i < k → c < m → mixed k (t i) a c ≡ 0
  -- the combinations lose nothing: only the zero vector of k elements is orthogonal to all of them
  pub whole : Determining k k t

-- a row that is not kept: where k rows are independent and a combination of k + 1 vanishes, the last is a combination of those before it
abbrev pub LastIsCombined : Type 0
LastIsCombined =
    (k m : ℕ) (a : Matrix) → ((i j : ℕ) → a i j < 256) → Independent k m a → Vanishing (suc k) m a → Spanned k m a (a k)
