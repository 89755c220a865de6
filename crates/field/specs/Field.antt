-- The field GF(2^8) of FIPS 197. An element is a byte; the operations are defined on all numbers and read the low eight bits.
use Rattle.std.specs.Prelude.{ℕ, zero, suc, ◌*◌, ◌/◌, ◌%◌, ◌^◌, Bool, eqb}
use Rattle.std.specs.Int.Bits.{bit_xor}
use Rattle.lists.specs.Lists.{pick}

-- 4.1, the sum
abbrev pub plus : (a b : ℕ) → ℕ
plus a b = bit_xor a b

-- f 0 + f 1 + .. + f (n - 1)
unfoldable pub sum : (n : ℕ) (f : ℕ → ℕ) → ℕ
sum zero f = 0
sum (suc n) f = plus (sum n f) (f n)

-- 4.2: m(x) = x^8 + x^4 + x^3 + x + 1
unfoldable pub modulus : ℕ
modulus = 0x11b

-- 4.2.1, multiplication by x: a shift to the left and, where bit 7 was set, the modulus subtracted
unfoldable pub xtime : (b : ℕ) → ℕ
xtime b = plus (b * 2) (b / 128 % 2 * modulus)

-- 4.2.1: "multiplication by higher powers of x can be implemented by repeated application of xtime"
unfoldable pub xtimes : (i b : ℕ) → ℕ
xtimes zero b = b
xtimes (suc i) b = xtime (xtimes i b)

-- 4.2, the product: b times each power of x that a has, added
unfoldable pub times : (a b : ℕ) → ℕ
times a b = sum 8 (λ i. a % 256 / 2 ^ i % 2 * xtimes i (b % 256))

-- a to the n
unfoldable pub power : (a n : ℕ) → ℕ
power a zero = 1
power a (suc n) = times a (power a n)

-- the largest number below n that passes the test; 0 where none does
unfoldable pub last : (n : ℕ) (p : ℕ → Bool) → ℕ
last zero p = 0
last (suc n) p = pick (p n) n (last n p)

-- 4.2, the multiplicative inverse: the byte whose product with a is 1; 00 has none and is mapped to itself (5.1.1)
unfoldable pub inverse_of : (a : ℕ) → ℕ
inverse_of a = last 256 (λ b. eqb (times a b) 1)
