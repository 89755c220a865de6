-- Combinations of rows, and which rows of a sequence are taken, in order: each candidate that is no combination of those taken before it
-- (SCHEME, Operations, Read and Plan).
-- A row is a vector of m elements; rows are counted from 0.
use Rattle.std.specs.Prelude.{ℕ, ◌<◌, ◌≡◌, Bool, true, false}
use Rattle.lists.specs.Lists.{pick}
use Rattle.vector.specs.Vectors.{mixed}

-- v is a combination of the first k rows
abbrev pub Spanned : (k m : ℕ) (row : ℕ → ℕ → ℕ) (v : ℕ → ℕ) → Type 0
Spanned k m row v = (c : ℕ → ℕ) × ((i : ℕ) → i < m → v i ≡ mixed k c row i)

-- the rows taken, and zero in place of the others
abbrev pub only : (taken : ℕ → Bool) (row : ℕ → ℕ → ℕ) → ℕ → ℕ → ℕ
only taken row j i = pick (taken j) (row j i) 0

-- row k is a combination of the taken rows before it
abbrev pub Combined : (m : ℕ) (row : ℕ → ℕ → ℕ) (taken : ℕ → Bool) (k : ℕ) → Type 0
Combined m row taken k = Spanned k m (only taken row) (row k)

-- of the first `count` rows
pub record Takes (m : ℕ) (row : ℕ → ℕ → ℕ) (candidate : ℕ → Bool) (count : ℕ) (taken : ℕ → Bool) : Type 0 where
  pub candidates : (k : ℕ) → k < count → taken k ≡ true → candidate k ≡ true
  pub independent : (k : ℕ) → k < count → taken k ≡ true → ¬ Combined m row taken k
  pub every : (k : ℕ) → k < count → candidate k ≡ true → taken k ≡ false → Combined m row taken k
