-- The laws of the field. They hold of all numbers, since the product reads eight bits; where a number has to be a byte, it is said.
use Rattle.std.specs.Prelude.{ℕ, suc, ◌%◌, ◌<◌, ◌≡◌, ◌⊎◌}
use Rattle.field.specs.Field.{plus, sum, times, inverse_of}

pub record FieldLaws : Type 0 where
  pub commutes : (a b : ℕ) → times a b ≡ times b a
  pub associates : (a b c : ℕ) → times (times a b) c ≡ times a (times b c)
  pub distributes : (a b c : ℕ) → times a (plus b c) ≡ plus (times a b) (times a c)
  pub one : (a : ℕ) → a < 256 → times 1 a ≡ a
  -- the product by zero
  pub zero : (a : ℕ) → times 0 a ≡ 0
  pub byte : (a b : ℕ) → times a b < 256
  pub inverse : (a : ℕ) → 0 < a → a < 256 → times a (inverse_of a) ≡ 1
  -- 5.1.1: 00 is mapped to itself
  pub inverse_zero : inverse_of 0 ≡ 0
  pub only_inverse : (a b : ℕ) → 0 < a → a < 256 → b < 256 → times a b ≡ 1 → b ≡ inverse_of a
  -- no zero divisors
  pub none : (a b : ℕ) → times a b ≡ 0 → (a % 256 ≡ 0) ⊎ (b % 256 ≡ 0)
  -- a sum has no term, or one term more than another
  pub empty_sum : (f : ℕ → ℕ) → 0 ≡ sum 0 f
  pub longer_sum : (n : ℕ) (f : ℕ → ℕ) → sum (suc n) f ≡ plus (sum n f) (f n)
