-- What the private contracts cite: the choice of rows so far.
use Rattle.std.specs.Prelude.{ℕ, ◌+◌, ◌*◌, ◌<◌, ◌≤◌, ◌≡◌, ◌⊎◌, Bool, true, false, List, get_or}
use Rattle.lists.specs.Lists.{at, how_many}
use Rattle.vector.specs.Taken.{only, Takes}
use Rattle.linear.specs.PrivateElimination.{Matrix, cells, Independent}
use Rattle.choice.specs.declared.rows.Rows.{Rows}
use Rattle.choice.specs.declared.Chosen.{Chosen}
use Rattle.choice.specs.PrivateReduced.{Basis}

-- element i of row k
abbrev pub row_at : (rows : Rows) → Matrix
row_at rows k i = at rows.bytes.now (rows.start + k * rows.stride + i)

-- row k is a candidate
abbrev pub offered : (candidates : List Bool) (k : ℕ) → Bool
offered candidates k = get_or candidates k false

-- the rows that c lists
abbrev pub listed_rows : (row : Matrix) (c : Chosen) → Matrix
listed_rows row c t = row (at c.numbers t)

-- c lists the rows taken among the first k, in order
pub record Choice (m : ℕ) (row : Matrix) (candidate : ℕ → Bool) (k : ℕ) (c : Chosen) : Type 0 where
  pub taken : ℕ → Bool
  pub takes : Takes m row candidate k taken
  pub later : (j : ℕ) → k ≤ j → taken j ≡ false
  pub number : c.count ≡ how_many k taken
  pub listed : (j : ℕ) → j < k → taken j ≡ true → at c.numbers (how_many j taken) ≡ j
  pub below : (t : ℕ) → t < c.count → at c.numbers t < k
  pub fits : c.count ≤ m
  pub independent : Independent c.count m (listed_rows row c)
  pub consulted : c.consulted ≡ how_many k candidate

-- and what those taken were reduced to
pub record Progress (m : ℕ) (row : Matrix) (candidate : ℕ → Bool) (k : ℕ) (reduced : List (List ℕ)) (c : Chosen) : Type 0 where
  pub choice : Choice m row candidate k c
  pub basis : Basis k m (only choice.taken row) (cells reduced)

-- the choice among all `count` rows, or among those up to the m-th taken
pub record WholeChoice (count m : ℕ) (row : Matrix) (candidate : ℕ → Bool) (c : Chosen) : Type 0 where
  pub end : ℕ
  pub there : end ≤ count
  pub choice : Choice m row candidate end c
  pub ended : (end ≡ count) ⊎ (c.count ≡ m)
