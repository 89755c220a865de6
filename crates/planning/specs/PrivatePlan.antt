-- What the private contracts cite: which combinations see a row.
use Rattle.std.specs.Prelude.{ℕ, zero, suc, ◌<◌, ◌≤◌, ◌≡◌, ◌≢◌, Bool, true, false, eqb}
use Rattle.lists.specs.Lists.{pick}
use Rattle.vector.specs.Vectors.{product}
use Rattle.linear.specs.PrivateElimination.{Matrix}

-- the row of t at the index of a number among the first `count`; zeros where it is not among them
unfoldable pub row_for : (count : ℕ) (numbers : ℕ → ℕ) (t : Matrix) (number e : ℕ) → ℕ
row_for zero numbers t number e = 0
row_for (suc count) numbers t number e = pick (eqb (numbers count) number) (t count e) (row_for count numbers t number e)

-- p is the first index from `from` on at which t sees w, m where none below m does
pub record FirstSeen (from m : ℕ) (t : Matrix) (w : ℕ → ℕ) (p : ℕ) : Type 0 where
  pub from_there : from ≤ p
  pub low : p ≤ m
  pub unseen : (i : ℕ) → from ≤ i → i < p → product m w (t i) ≡ 0
  pub seen : p < m → product m w (t p) ≢ 0

-- some wanted row is seen at an index from `from` on
pub record Beyond (places from m : ℕ) (t wanted : Matrix) : Type 0 where
  pub place : ℕ
  pub there : place < places
  pub index : ℕ
  pub index_from : from ≤ index
  pub index_low : index < m
  pub seen : product m (wanted place) (t index) ≢ 0

-- whether none is
abbrev pub Reaching : (places from m : ℕ) (t wanted : Matrix) → Bool → Type 0
Reaching places from m t wanted true = (k i : ℕ) → k < places → from ≤ i → i < m → product m (wanted k) (t i) ≡ 0
Reaching places from m t wanted false = Beyond places from m t wanted
