-- Laws of powers. Assumes nothing.
use mathlib.Core.Path.{◌≡◌}
use Prim.Native.Nat.{ℕ, zero, suc, ◌+◌, ◌<◌}
use native.Mathlib.Nat.{zero-add, suc-add}
use lib.Dec.{lit<}
use Rattle.field.specs.Field.{times, power}
use Rattle.field.proofs.TimesLaws.{times_lt, times_assoc, one_times}

pub power_lt : (a n : ℕ) → power a n < 256
unfolding power
power_lt a zero = lit< tt
power_lt a (suc n) = times_lt a (power a n)

pub power_add : (a m n : ℕ) → power a (m + n) ≡ times (power a m) (power a n)
unfolding power
power_add a zero n = rw (zero-add n, one_times (power_lt a n))
power_add a (suc m) n = rw (suc-add m n, power_add a m n, times_assoc a (power a m) (power a n))
