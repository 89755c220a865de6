-- The laws of the product. They hold of all numbers, since only the low eight bits of an operand count. Assumes nothing.
use mathlib.Core.Path.{◌≡◌, refl, sym, ap, ap₂, ◌∙◌, subst}
use Prim.Native.Nat.{ℕ, zero, suc, ◌*◌, ◌/◌, ◌%◌, ◌^◌, ◌<◌}
use native.Mathlib.Nat.{mod-mod, mod-lt, mod-eq_of_lt, zero-mul, one-mul, add-zero, pow-suc, div-lt_iff_lt-mul}
use native.Mathlib.Omega.{arith}
use lib.Dec.{T, eqb, eqb→eq, lit<}
use lib.Arith.{lt-one}
use lib.Pow.{pow_pos, split}
use lib.Bits.{bit_xor, xor_self, xor_zero_r, xor_shr, xor_mod, xor_block, xor_shifted}
use Rattle.lists.proofs.AllLaws.{all, all_at}
use Rattle.field.specs.Field.{sum, modulus, xtime, xtimes, times}
use Rattle.field.proofs.XorLaws.{xors, digit, odd, xor_swap}
use Rattle.field.proofs.SumLaws.{Linear, linear_zero, sum_same, sum_plus, sum_linear}

-- ---- linear

-- a bit of a sum
xor_of_bits : (i a b : ℕ) → bit_xor a b / 2 ^ i % 2 ≡ bit_xor (a / 2 ^ i % 2) (b / 2 ^ i % 2)
xor_of_bits i a b = ap (λ x. x % 2) (xor_shr a b i) ∙ xor_mod (a / 2 ^ i) (b / 2 ^ i) 1

-- a multiple by a bit, on either side
by_bits : (a b c : ℕ) → bit_xor (a % 2) (b % 2) * c ≡ bit_xor (a % 2 * c) (b % 2 * c)
by_bits a b c =
    odd (λ x. bit_xor x (b % 2) * c ≡ bit_xor (x * c) (b % 2 * c)) (simp zero-mul)
    (odd (λ y. bit_xor 1 y * c ≡ bit_xor (1 * c) (y * c)) (simp (zero-mul, one-mul, xor_zero_r)) (simp (zero-mul, one-mul, xor_self)) b) a

by_bit : (a b c : ℕ) → a % 2 * bit_xor b c ≡ bit_xor (a % 2 * b) (a % 2 * c)
by_bit a b c = odd (λ x. x * bit_xor b c ≡ bit_xor (x * b) (x * c)) (simp zero-mul) (simp one-mul) a

double : Linear (λ a. a * 2)
double a b = sym (simp add-zero at (xor_block 1 a b 0 0 (lit< tt) (lit< tt)))

pub xtime_linear : Linear xtime
unfolding xtime
xtime_linear a b =
    ap₂ bit_xor (double a b) (ap (λ x. x * modulus) (xor_of_bits 7 a b) ∙ by_bits (a / 128) (b / 128) modulus)
    ∙ xor_swap (a * 2) (b * 2) (a / 128 % 2 * modulus) (b / 128 % 2 * modulus)

pub xtimes_linear : (i : ℕ) → Linear (xtimes i)
unfolding xtimes
xtimes_linear zero a b = refl
xtimes_linear (suc i) a b = rw (xtimes_linear i a b) (xtime_linear (xtimes i a) (xtimes i b))

pub times_xor_left : (a b c : ℕ) → times (bit_xor a b) c ≡ bit_xor (times a c) (times b c)
unfolding times
times_xor_left a b c =
    sum_same 8 _ _ (λ i h. rw (xor_mod a b 8, xor_of_bits i (a % 256) (b % 256)) (by_bits (a % 256 / 2 ^ i) (b % 256 / 2 ^ i) (xtimes i (c % 256))))
    ∙ sum_plus 8 _ _

pub times_xor_right : (a b c : ℕ) → times a (bit_xor b c) ≡ bit_xor (times a b) (times a c)
unfolding times
times_xor_right a b c =
    sum_same 8 _ _ (λ i h. rw (xor_mod b c 8, xtimes_linear i (b % 256) (c % 256)) (by_bit (a % 256 / 2 ^ i) (xtimes i (b % 256)) (xtimes i (c % 256))))
    ∙ sum_plus 8 _ _

pub times_mod_left : (a b : ℕ) → times (a % 256) b ≡ times a b
unfolding times
times_mod_left a b = simp mod-mod

pub times_mod_right : (a b : ℕ) → times a (b % 256) ≡ times a b
unfolding times
times_mod_right a b = simp mod-mod

-- ---- from the powers of two to every number

-- two linear functions that agree at the powers of two below 2 ^ k agree below it
pub basis : (F G : ℕ → ℕ) → Linear F → Linear G → (k : ℕ) → ((i : ℕ) → i < k → F (2 ^ i) ≡ G (2 ^ i)) → (x : ℕ) → x < 2 ^ k → F x ≡ G x
basis F G f g zero h x l = rw (lt-one l) (linear_zero F f ∙ sym (linear_zero G g))
basis F G f g (suc k) h x l =
    subst (λ y. F y ≡ G y) (xor_shifted (x / 2 ^ k) k (x % 2 ^ k) (mod-lt x (pow_pos k)) ∙ split x k)
    (f (x / 2 ^ k * 2 ^ k) (x % 2 ^ k)
    ∙ ap₂ bit_xor
    (digit (λ d. F (d * 2 ^ k) ≡ G (d * 2 ^ k)) (rw zero-mul (linear_zero F f ∙ sym (linear_zero G g))) (rw one-mul (h k (omega arith)))
    (x / 2 ^ k) ((div-lt_iff_lt-mul (pow_pos k)).1 (omega (arith, pow-suc 2 k))))
    (basis F G f g k (λ i m. h i (omega arith)) (x % 2 ^ k) (mod-lt x (pow_pos k)))
    ∙ sym (g (x / 2 ^ k * 2 ^ k) (x % 2 ^ k)))

-- ---- the field's laws

-- a linear function of the low eight bits
pub record Byte (F : ℕ → ℕ) : Type 0 where
  pub linear : Linear F
  pub low : (x : ℕ) → F (x % 256) ≡ F x

pub agree : {F G : ℕ → ℕ} → Byte F → Byte G → ((i : ℕ) → i < 8 → F (2 ^ i) ≡ G (2 ^ i)) → (x : ℕ) → F x ≡ G x
agree {F} {G} f g h x = sym (f.low x) ∙ basis F G f.linear g.linear 8 h (x % 256) (mod-lt x (lit< tt)) ∙ g.low x

pub left : (b : ℕ) → Byte (λ a. times a b)
left b = record { linear = λ x y. times_xor_left x y b; low = λ x. times_mod_left x b }

pub right : (a : ℕ) → Byte (times a)
right a = record { linear = times_xor_right a; low = times_mod_right a }

pub after : {F G : ℕ → ℕ} → Byte F → Byte G → Byte (λ x. F (G x))
after {F} {G} f g = record { linear = λ x y. ap F (g.linear x y) ∙ f.linear (G x) (G y); low = λ x. ap F (g.low x) }

pub low : Byte (λ x. x % 256)
low = record { linear = λ x y. xor_mod x y 8; low = λ x. mod-mod x 256 }

-- tests at the powers of two, which antt computes
comm_test : T (all 8 (λ i. all 8 (λ j. eqb (times (2 ^ i) (2 ^ j)) (times (2 ^ j) (2 ^ i)))))
unfolding times xtimes xtime modulus sum all
comm_test = tt

low_test : T (all 8 (λ i. all 8 (λ j. eqb (times (2 ^ i) (2 ^ j) % 256) (times (2 ^ i) (2 ^ j)))))
unfolding times xtimes xtime modulus sum all
low_test = tt

x_test : T (all 8 (λ i. all 8 (λ j. eqb (times (times 2 (2 ^ i)) (2 ^ j)) (times 2 (times (2 ^ i) (2 ^ j))))))
unfolding times xtimes xtime modulus sum all
x_test = tt

power_test : T (all 7 (λ i. eqb (2 ^ suc i) (times 2 (2 ^ i))))
unfolding times xtimes xtime modulus sum all
power_test = tt

one_test : T (all 8 (λ i. eqb (times 1 (2 ^ i)) (2 ^ i % 256)))
unfolding times xtimes xtime modulus sum all
one_test = tt

pub times_comm : (a b : ℕ) → times a b ≡ times b a
times_comm a b =
    agree (left b) (right b)
    (λ i h. agree (right (2 ^ i)) (left (2 ^ i)) (λ j k. eqb→eq _ _ (all_at 8 _ (all_at 8 _ comm_test i h) j k)) b) a

pub times_low : (a b : ℕ) → times a b % 256 ≡ times a b
times_low a b =
    agree (after low (left b)) (left b)
    (λ i h. agree (after low (right (2 ^ i))) (right (2 ^ i)) (λ j k. eqb→eq _ _ (all_at 8 _ (all_at 8 _ low_test i h) j k)) b) a

pub times_lt : (a b : ℕ) → times a b < 256
times_lt a b = omega (arith, times_low a b)

pub one_times_low : (a : ℕ) → times 1 a ≡ a % 256
one_times_low = agree (right 1) low (λ i h. eqb→eq _ _ (all_at 8 _ one_test i h))

pub one_times : {a : ℕ} → a < 256 → times 1 a ≡ a
one_times {a} h = one_times_low a ∙ mod-eq_of_lt h

pub zero_times : (a : ℕ) → times 0 a ≡ 0
zero_times a = linear_zero (λ x. times x a) (left a).linear

pub times_zero : (a : ℕ) → times a 0 ≡ 0
times_zero a = linear_zero (times a) (right a).linear

-- associative where the first operand is x, then where it is a power of x, then at every operand
assoc_x : (b c : ℕ) → times (times 2 b) c ≡ times 2 (times b c)
assoc_x b c =
    agree (after (left c) (right 2)) (after (right 2) (left c))
    (λ i h. agree (right (times 2 (2 ^ i))) (after (right 2) (right (2 ^ i))) (λ j k. eqb→eq _ _ (all_at 8 _ (all_at 8 _ x_test i h) j k)) c) b

assoc_power : (b c i : ℕ) → i < 8 → times (times (2 ^ i) b) c ≡ times (2 ^ i) (times b c)
assoc_power b c zero l = rw (one_times_low b, times_mod_left b c, one_times (times_lt b c))
assoc_power b c (suc i) l =
    let e : 2 ^ suc i ≡ times 2 (2 ^ i) = eqb→eq _ _ (all_at 7 _ power_test i (omega arith)) in
    rw (e, assoc_x (2 ^ i) b, assoc_x (times (2 ^ i) b) c, assoc_x (2 ^ i) (times b c)) (ap (times 2) (assoc_power b c i (omega arith)))

pub times_assoc : (a b c : ℕ) → times (times a b) c ≡ times a (times b c)
times_assoc a b c = agree (after (left c) (left b)) (left (times b c)) (assoc_power b c) a

pub times_left_comm : (a b c : ℕ) → times a (times b c) ≡ times b (times a c)
times_left_comm a b c = sym (times_assoc a b c) ∙ ap (λ x. times x c) (times_comm a b) ∙ times_assoc b a c

-- sorts a product, and multiplies sums out: proves what holds in every commutative ring where a + a is 0
pub ruleset products = (times_assoc, times_comm, times_left_comm)

pub ruleset ring = (products, times_xor_left, times_xor_right, zero_times, times_zero, xors)

-- ---- sums

pub times_sum : (c n : ℕ) (f : ℕ → ℕ) → times c (sum n f) ≡ sum n (λ i. times c (f i))
times_sum c = sum_linear (times c) (times_xor_right c)

pub sum_times : (n : ℕ) (f : ℕ → ℕ) (c : ℕ) → times (sum n f) c ≡ sum n (λ i. times (f i) c)
sum_times n f c = sum_linear (λ x. times x c) (left c).linear n f
