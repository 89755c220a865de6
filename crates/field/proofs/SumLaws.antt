-- Laws of sums over the indices below a number. Assumes nothing.
use mathlib.Core.Path.{◌≡◌, refl, sym, ap, ap₂, ◌∙◌}
use mathlib.Core.Logic.{⊎_elim, ◌≢◌}
use Prim.Native.Nat.{ℕ, zero, suc, ◌+◌, ◌*◌, ◌/◌, ◌%◌, ◌<◌, ◌^◌}
use native.Mathlib.Nat.{eq-or-lt_of_le, le_of_suc-le-suc, not-suc-le-zero, add-zero, add-suc}
use native.Mathlib.Numerals.{add-one}
use native.Mathlib.Omega.{arith}
use lib.Arith.{digits_div, digits_mod}
use lib.Pow.{pow_pos}
use lib.Bits.{bit_xor, xor_self, xor_zero_r, xor_lt}
use Rattle.field.specs.Field.{plus, sum}
use Rattle.field.proofs.XorLaws.{xor_assoc, xor_swap}

-- F respects addition
abbrev pub Linear : (ℕ → ℕ) → Type 0
Linear F = (a b : ℕ) → F (plus a b) ≡ plus (F a) (F b)

pub linear_zero : (F : ℕ → ℕ) → Linear F → F 0 ≡ 0
linear_zero F l = l 0 0 ∙ xor_self (F 0)

-- no term, and one term more
pub sum_none : (f : ℕ → ℕ) → 0 ≡ sum 0 f
unfolding sum
sum_none f = refl

pub sum_last : (n : ℕ) (f : ℕ → ℕ) → sum (suc n) f ≡ plus (sum n f) (f n)
unfolding sum
sum_last n f = refl

-- the steps of a loop that adds one term a turn: one more, all
pub sum_more : (n : ℕ) (f : ℕ → ℕ) {r v : ℕ} → r ≡ sum n f → v ≡ f n → plus r v ≡ sum (n + 1) f
sum_more n f e g = rw (add-one, e, g) (sym (sum_last n f))

pub sum_all : {n i r : ℕ} (f : ℕ → ℕ) → i ≡ n → r ≡ sum i f → r ≡ sum n f
sum_all f e p = p ∙ ap (λ k. sum k f) e

-- equal terms give equal sums
pub sum_same : (n : ℕ) (f g : ℕ → ℕ) → ((i : ℕ) → i < n → f i ≡ g i) → sum n f ≡ sum n g
unfolding sum
sum_same zero f g h = refl
sum_same (suc n) f g h = ap₂ bit_xor (sum_same n f g (λ i l. h i (omega arith))) (h n (omega arith))

pub sum_zero : (n : ℕ) (f : ℕ → ℕ) → ((i : ℕ) → i < n → f i ≡ 0) → sum n f ≡ 0
unfolding sum
sum_zero zero f h = refl
sum_zero (suc n) f h = ap₂ bit_xor (sum_zero n f (λ i l. h i (omega arith))) (h n (omega arith))

-- a sum of sums of two terms
pub sum_plus : (n : ℕ) (f g : ℕ → ℕ) → sum n (λ i. plus (f i) (g i)) ≡ plus (sum n f) (sum n g)
unfolding sum
sum_plus zero f g = refl
sum_plus (suc n) f g = rw (sum_plus n f g) (xor_swap (sum n f) (sum n g) (f n) (g n))

pub sum_linear : (F : ℕ → ℕ) → Linear F → (n : ℕ) (f : ℕ → ℕ) → F (sum n f) ≡ sum n (λ i. F (f i))
unfolding sum
sum_linear F l zero f = linear_zero F l
sum_linear F l (suc n) f = rw (l (sum n f) (f n), sum_linear F l n f)

-- two sums exchanged
pub sum_swap : (m n : ℕ) (f : ℕ → ℕ → ℕ) → sum m (λ i. sum n (f i)) ≡ sum n (λ j. sum m (λ i. f i j))
unfolding sum
sum_swap zero n f = sym (sum_zero n (λ j. 0) (λ j h. refl))
sum_swap (suc m) n f = rw (sum_swap m n f) (sym (sum_plus n (λ j. sum m (λ i. f i j)) (f m)))

-- one term alone is not zero
pub sum_one : (n k : ℕ) (f : ℕ → ℕ) → k < n → ((i : ℕ) → i < n → i ≢ k → f i ≡ 0) → sum n f ≡ f k
unfolding sum
sum_one zero k f l h = absurd (not-suc-le-zero l)
sum_one (suc n) k f l h =
    ⊎_elim
    (λ (e : k ≡ n). rw e (ap (λ x. bit_xor x (f n)) (sum_zero n f (λ i m. h i (omega arith) (omega arith)))))
    (λ (m : k < n). ap₂ bit_xor (sum_one n k f m (λ i o q. h i (omega arith) q)) (h n (omega arith) (omega arith)) ∙ xor_zero_r (f k))
    (eq-or-lt_of_le (le_of_suc-le-suc l))

-- a sum split at an index
pub sum_split : (m n : ℕ) (f : ℕ → ℕ) → sum (m + n) f ≡ plus (sum m f) (sum n (λ i. f (m + i)))
unfolding sum
sum_split m zero f = rw (add-zero, xor_zero_r)
sum_split m (suc n) f = rw (add-suc, sum_split m n f) (xor_assoc (sum m f) (sum n (λ i. f (m + i))) (f (m + n)))

-- a sum over all pairs, row after row
pub sum_rows : (p q : ℕ) (f : ℕ → ℕ → ℕ) → 0 < q → sum (p * q) (λ t. f (t / q) (t % q)) ≡ sum p (λ i. sum q (f i))
unfolding sum
sum_rows zero q f low = let z : 0 * q ≡ 0 = omega arith in rw z
sum_rows (suc p) q f low =
    let z : suc p * q ≡ p * q + q = omega arith in
    rw z
    (sum_split (p * q) q _
    ∙ ap₂ bit_xor (sum_rows p q f low) (sum_same q _ (f p) (λ j h. ap₂ f (digits_div p h) (digits_mod p h))))

pub sum_lt : (k n : ℕ) (f : ℕ → ℕ) → ((i : ℕ) → i < n → f i < 2 ^ k) → sum n f < 2 ^ k
unfolding sum
sum_lt k zero f h = pow_pos k
sum_lt k (suc n) f h = xor_lt k (sum n f) (f n) (sum_lt k n f (λ i l. h i (omega arith))) (h n (omega arith))
