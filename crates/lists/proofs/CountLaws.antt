-- Laws of counting. Assumes nothing.
use Prim.Native.Nat.{ℕ, zero, suc, ◌+◌, ◌-◌, ◌<◌, ◌≤◌}
use mathlib.Core.Path.{◌≡◌, refl, sym, ap, ◌∙◌}
use mathlib.Core.Bool.{Bool, true, false}
use mathlib.Core.Logic.{◌≢◌}
use native.Mathlib.Decide.{ℕ_discrete}
use native.Mathlib.Nat.{add-zero, add-suc}
use native.Mathlib.Numerals.{add-one}
use native.Mathlib.Omega.{arith}
use Rattle.lists.specs.Lists.{bit, how_many}

pub bit_low : (b : Bool) → bit b < 2
bit_low true = omega arith
bit_low false = omega arith

pub how_many_more : (n : ℕ) (p : ℕ → Bool) → how_many (n + 1) p ≡ how_many n p + bit (p n)
unfolding how_many
how_many_more n p = rw add-one

pub how_many_zero : (p : ℕ → Bool) → how_many 0 p ≡ 0
unfolding how_many
how_many_zero p = refl

pub how_many_most : (n : ℕ) (f : ℕ → Bool) → how_many n f ≤ n
unfolding how_many
how_many_most zero f = omega arith
how_many_most (suc n) f = omega (arith, how_many_most n f, bit_low (f n))

how_many_none : (n : ℕ) (f : ℕ → Bool) → ((i : ℕ) → i < n → f i ≡ false) → how_many n f ≡ 0
unfolding how_many
how_many_none zero f h = refl
how_many_none (suc n) f h = rw (how_many_none n f (λ i l. h i (omega arith)), h n (omega arith))

-- at most one index passes
pub how_many_one : (n k : ℕ) (f : ℕ → Bool) → k < n → ((i : ℕ) → i < n → i ≢ k → f i ≡ false) → how_many n f ≡ bit (f k)
unfolding how_many
how_many_one zero k f h others = absurd (omega arith)
how_many_one (suc n) k f h others =
    elim (ℕ_discrete k n) [
      | yes e ↦ rw (how_many_none n f (λ i l. others i (omega arith) (λ q. omega arith)), e) (omega arith)
      | no e ↦ rw (how_many_one n k f (omega arith) (λ i l. others i (omega arith)), others n (omega arith) (λ q. e (sym q))) (omega arith)
    ]

pub how_many_split : (a b : ℕ) (f : ℕ → Bool) → how_many (a + b) f ≡ how_many a f + how_many b (λ i. f (a + i))
unfolding how_many
how_many_split a zero f = simp add-zero
how_many_split a (suc b) f = rw (add-suc, how_many_split a b f) (omega arith)

pub how_many_same : (n : ℕ) (f g : ℕ → Bool) → ((i : ℕ) → i < n → f i ≡ g i) → how_many n f ≡ how_many n g
unfolding how_many
how_many_same zero f g h = refl
how_many_same (suc n) f g h = rw (how_many_same n f g (λ i l. h i (omega arith)), h n (omega arith))

-- up to a later index, the indices from k on that pass are added
how_many_from : (k l : ℕ) (p : ℕ → Bool) → k ≤ l → how_many l p ≡ how_many k p + how_many (l - k) (λ i. p (k + i))
how_many_from k l p h = let e : l ≡ k + (l - k) = omega arith in ap (λ (n : ℕ). how_many n p) e ∙ how_many_split k (l - k) p

pub how_many_mono : (k l : ℕ) (p : ℕ → Bool) → k ≤ l → how_many k p ≤ how_many l p
how_many_mono k l p h = omega (arith, how_many_from k l p h)

-- an index that passes is counted
pub how_many_less : (j k : ℕ) (p : ℕ → Bool) → j < k → p j ≡ true → how_many j p < how_many k p
how_many_less j k p h e = omega (arith, how_many_mono (j + 1) k p (omega arith), how_many_more j p, ap bit e)

-- no index from k on passes
pub how_many_stop : (k l : ℕ) (p : ℕ → Bool) → k ≤ l → ((j : ℕ) → k ≤ j → p j ≡ false) → how_many l p ≡ how_many k p
how_many_stop k l p h later = omega (arith, how_many_from k l p h, how_many_none (l - k) (λ i. p (k + i)) (λ i b. later (k + i) (omega arith)))

-- where one passes the other does
pub how_many_within : (n : ℕ) (p q : ℕ → Bool) → ((j : ℕ) → j < n → p j ≡ true → q j ≡ true) → how_many n p ≤ how_many n q
unfolding how_many
how_many_within zero p q h = omega arith
how_many_within (suc n) p q h = go (p n) refl (how_many_within n p q (λ j l. h j (omega arith)))
  where
    go : (b : Bool) → p n ≡ b → how_many n p ≤ how_many n q → how_many n p + bit b ≤ how_many n q + bit (q n)
    go true e before = rw (h n (omega arith) e) (omega arith)
    go false e before = omega arith
