-- Laws of `number` and `bit_of`: a number and its bits, the most significant first. Assumes nothing.
use Prim.Native.Nat.{ℕ, zero, suc, ◌+◌, ◌-◌, ◌*◌, ◌/◌, ◌%◌, ◌^◌, ◌<◌, ◌≤◌}
use mathlib.Core.Path.{◌≡◌, refl, sym, ap, ◌∙◌}
use mathlib.Core.Bool.{Bool, true, false}
use native.Mathlib.Nat.{mod-lt, div-div-eq-div-mul, pow-suc, pow-succ', div-eq_of_lt}
use native.Mathlib.Numerals.{add-one}
use native.Mathlib.Omega.{arith}
use lib.Dec.{eqb}
use lib.Pow.{pow_mono}
use Rattle.lists.specs.Lists.{bit}
use Rattle.lists.proofs.CountLaws.{bit_low}
use Rattle.bits.specs.Fields.{bit_of, number}

-- one bit as a number
pub bit_back : (b : Bool) → eqb (bit b) 1 ≡ b
bit_back true = refl
bit_back false = refl

pub bit_odd : (x : ℕ) → bit (eqb (x % 2) 1) ≡ x % 2
bit_odd x = go (x % 2) (mod-lt x (omega arith))
  where
    go : (y : ℕ) → y < 2 → bit (eqb y 1) ≡ y
    go zero h = refl
    go (suc zero) h = refl
    go (suc (suc y)) h = absurd (omega arith)

-- a number of w bits: bit i, with e bits after it; the same in a byte; only the bits decide it; its bound
half : (x b e : ℕ) → b < 2 → (x * 2 + b) / 2 ^ suc e ≡ x / 2 ^ e
half x b e h =
    let q : (x * 2 + b) / 2 ≡ x = omega arith in
    rw (pow-succ' 2 e) (sym (div-div-eq-div-mul (x * 2 + b) 2 (2 ^ e)) ∙ ap (λ (y : ℕ). y / 2 ^ e) q)

pub number_bit : (f : ℕ → Bool) (i e w : ℕ) → w ≡ suc (i + e) → number f w / 2 ^ e % 2 ≡ bit (f i)
unfolding number
number_bit f i e zero q = absurd (omega arith)
number_bit f i zero (suc w) q = let r : w ≡ i = omega arith in rw r (omega (arith, bit_low (f i)))
number_bit f i (suc e) (suc w) q = rw (half (number f w) (bit (f w)) e (bit_low (f w))) (number_bit f i e w (omega arith))

pub place_bit : (f : ℕ → Bool) (i e : ℕ) (b : Bool) → f i ≡ b → i + e ≡ 7 → eqb (number f 8 / 2 ^ e % 2) 1 ≡ b
place_bit f i e b q h = rw (number_bit f i e 8 (omega arith)) (bit_back (f i) ∙ q)

pub number_same : (f g : ℕ → Bool) (w : ℕ) → ((i : ℕ) → i < w → f i ≡ g i) → number f w ≡ number g w
unfolding number
number_same f g zero h = refl
number_same f g (suc w) h = rw (number_same f g w (λ i l. h i (omega arith)), h w (omega arith))

pub number_low : (f : ℕ → Bool) (w : ℕ) → number f w < 2 ^ w
unfolding number
number_low f zero = omega arith
number_low f (suc w) = omega (arith, number_low f w, bit_low (f w), pow-suc 2 w)

-- no bit, one bit more, few bits
pub number_none : (f : ℕ → Bool) → 0 ≡ number f 0
unfolding number
number_none f = refl

-- no bit is set
pub number_zero : (w : ℕ) → number (λ i. false) w ≡ 0
unfolding number
number_zero zero = refl
number_zero (suc w) = rw (number_zero w)

pub number_more : (f : ℕ → Bool) (w : ℕ) {x y : ℕ} → x ≡ number f w → y ≡ bit (f w) → x * 2 + y ≡ number f (w + 1)
unfolding number
number_more f w e h = rw (add-one, e, h)

pub number_small : (f : ℕ → Bool) (w : ℕ) {x : ℕ} → x ≡ number f w → w ≤ 16 → x < 65536
number_small f w e h = omega (arith, number_low f w, pow_mono {i = w} {j = 16} h)

-- two numbers that differ in bit i at most, with e bits after it
pub number_other : (f g : ℕ → Bool) (i e w : ℕ) → w ≡ suc (i + e)
    → ((j : ℕ) → j < w → (j ≡ i → ⊥) → f j ≡ g j)
    → number f w + bit (g i) * 2 ^ e ≡ number g w + bit (f i) * 2 ^ e
unfolding number
number_other f g i e zero q h = absurd (omega arith)
number_other f g i zero (suc w) q h =
    let r : w ≡ i = omega arith in
    rw (r, number_same f g i (λ j l. h j (omega arith) (λ n. omega arith))) (omega arith)
number_other f g i (suc e) (suc w) q h =
    rw (h w (omega arith) (λ n. omega arith))
    (doubled (number f w) (number g w) (bit (g w)) (bit (g i)) (bit (f i)) (2 ^ e) (2 ^ suc e) (pow-suc 2 e) (number_other f g i e w (omega arith) (λ j l. h j (omega arith))))
  where
    doubled : (a b c x y p r : ℕ) → r ≡ p * 2 → a + x * p ≡ b + y * p → a * 2 + c + x * r ≡ b * 2 + c + y * r
    doubled a b c x y p r d m = rw d (omega arith)

-- the first u of a value's w bits write it without its last w - u; all of them write it
bit_after : (v a e : ℕ) → a ≡ e → bit (eqb (v / 2 ^ a % 2) 1) ≡ v / 2 ^ e % 2
bit_after v a e q = rw q (bit_odd (v / 2 ^ e))

last_bit : (w v u e : ℕ) → w ≡ suc (u + e) → bit (bit_of w v u) ≡ v / 2 ^ e % 2
unfolding bit_of
last_bit w v u e h = bit_after v _ e (omega arith)

number_front : (w v u : ℕ) → u ≤ w → v < 2 ^ w → number (bit_of w v) u ≡ v / 2 ^ (w - u)
unfolding number
number_front w v zero h l = let q : w - 0 ≡ w = omega arith in rw q (sym (div-eq_of_lt l))
number_front w v (suc u) h l =
    let q : w - u ≡ suc (w - suc u) = omega arith in
    let halved : v / 2 ^ (w - u) ≡ v / 2 ^ (w - suc u) / 2 =
    ap (λ (x : ℕ). v / 2 ^ x) q ∙ ap (λ (x : ℕ). v / x) (pow-suc 2 (w - suc u)) ∙ sym (div-div-eq-div-mul v (2 ^ (w - suc u)) 2) in
    rw (number_front w v u (omega arith) l, halved, last_bit w v u (w - suc u) (omega arith)) (omega arith)

pub number_back : (w v : ℕ) → v < 2 ^ w → number (bit_of w v) w ≡ v
number_back w v l =
    let q : w - w ≡ 0 = omega arith in
    number_front w v w (omega arith) l ∙ rw q (omega arith)
