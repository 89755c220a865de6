-- The table that products go through: the 255 powers of 03, from 01 on, twice in a row, then their logarithms (SCHEME, Field).
use Rattle.std.specs.Prelude.{ℕ, ◌+◌, ◌<◌, ◌≡◌, List}
use Rattle.lists.specs.Lists.{at}
use Rattle.field.specs.Field.{power}

-- where the logarithms begin; the sum of two logarithms is an index below it
abbrev pub logs_start : ℕ
logs_start = 510

-- how the constants p and l are laid out in t
pub record Laid (p l t : List ℕ) : Type 0 where
  pub first : (k : ℕ) → k < 255 → at t k ≡ at p k
  pub again : (k : ℕ) → k < 255 → at t (k + 255) ≡ at p k
  pub logs : (a : ℕ) → a < 256 → at t (a + logs_start) ≡ at l a

-- entry k is 03 to the k; the entry of a from logs_start on is the logarithm of a to the base 03, that of 0 some exponent
pub record FieldTables (t : List ℕ) : Type 0 where
  pub power_of : (k : ℕ) → k < logs_start → at t k ≡ power 3 k
  pub exponent : (a : ℕ) → a < 256 → at t (a + logs_start) < 255
  pub logarithm : (a : ℕ) → 0 < a → a < 256 → power 3 (at t (a + logs_start)) ≡ a
