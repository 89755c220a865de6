-- Laws of `pick`, `any_of` and `any_below`. Assumes nothing.
use Prim.Native.Nat.{ℕ, zero, suc, ◌+◌, ◌<◌}
use mathlib.Core.Path.{◌≡◌, refl}
use mathlib.Core.Bool.{Bool, true, false, ◌&&◌, ◌||◌}
use mathlib.Core.List.{List, [], ◌∷◌, ◌++◌}
use native.Mathlib.Omega.{arith}
use native.Mathlib.Decide.{ℕ_discrete}
use Rattle.lists.specs.Lists.{pick, any_of, any_below}

-- a choice between two that are the same, and the test itself
pub pick_same : {A : Type 0} (b : Bool) (a : A) → pick b a a ≡ a
pick_same true a = refl
pick_same false a = refl

pub pick_test : (b : Bool) → pick b true false ≡ b
pick_test true = refl
pick_test false = refl

either_false : (a b : Bool) → pick a true b ≡ false → (a ≡ false) × (b ≡ false)
either_false true b e = let q : ◌≡◌ {A = ℕ} 0 1 = cc in absurd (omega arith)
either_false false b e = (refl, e)

abbrev pub nth : List Bool → ℕ → Bool
nth [] k = false
nth (t ∷ ts) zero = t
nth (t ∷ ts) (suc k) = nth ts k

-- where no test of a list holds: the one with number k, from 0
pub none_at : (ts : List Bool) (k : ℕ) → any_of ts ≡ false → nth ts k ≡ false
unfolding any_of
none_at [] k e = refl
none_at (t ∷ ts) zero e = (either_false t (any_of ts) e).0
none_at (t ∷ ts) (suc k) e = none_at ts k (either_false t (any_of ts) e).1

pub any_below_lem : (n : ℕ) (f : ℕ → Bool) → any_below n f ≡ false → (i : ℕ) → i < n → f i ≡ false
unfolding any_below
any_below_lem zero f e i h = absurd (omega arith)
any_below_lem (suc n) f e i h =
    let w : (f n ≡ false) × (any_below n f ≡ false) = either_false (f n) (any_below n f) e in
    elim (ℕ_discrete i n) [ yes q ↦ rw q w.0 | no q ↦ any_below_lem n f w.1 i (omega arith) ]

-- the first holds, one of the rest holds, the first does not; the only one
pub any_here : (a : Bool) (ts : List Bool) → a ≡ true → any_of (a ∷ ts) ≡ true
unfolding any_of
any_here a ts e = rw e

pub any_there : (a : Bool) (ts : List Bool) → any_of ts ≡ true → any_of (a ∷ ts) ≡ true
unfolding any_of
any_there true ts e = refl
any_there false ts e = e

pub any_skip : (a : Bool) (ts : List Bool) → a ≡ false → any_of (a ∷ ts) ≡ any_of ts
unfolding any_of
any_skip a ts e = rw e

pub any_last : (a : Bool) → any_of (a ∷ []) ≡ a
unfolding any_of
any_last a = pick_test a

-- two tests that agree below n
pub any_same : (n : ℕ) (f g : ℕ → Bool) → ((i : ℕ) → i < n → f i ≡ g i) → any_below n f ≡ any_below n g
unfolding any_below
any_same zero f g h = refl
any_same (suc n) f g h = rw (any_same n f g (λ i l. h i (omega arith)), h n (omega arith))

-- none holds
pub any_none : (n : ℕ) (f : ℕ → Bool) → ((i : ℕ) → i < n → f i ≡ false) → any_below n f ≡ false
unfolding any_below
any_none zero f h = refl
any_none (suc n) f h = rw (h n (omega arith)) (any_none n f (λ i l. h i (omega arith)))

-- none before k holds, nor does k
pub none_more : (f : ℕ → Bool) (k : ℕ) → ((i : ℕ) → i < k → f i ≡ false) → f k ≡ false → (i : ℕ) → i < k + 1 → f i ≡ false
none_more f k h e i l = elim (ℕ_discrete i k) [ yes q ↦ rw q e | no q ↦ h i (omega arith) ]

-- one holds
pub any_some : (n : ℕ) (f : ℕ → Bool) (i : ℕ) → i < n → f i ≡ true → any_below n f ≡ true
unfolding any_below
any_some zero f i h e = absurd (omega arith)
any_some (suc n) f i h e =
    elim (ℕ_discrete i n) [ yes q ↦ rw (← q, e) | no q ↦ rw (any_some n f i (omega arith) e) (pick_same (f n) true) ]

-- one list of tests behind another
pub any_append : (ts us : List Bool) → any_of (ts ++ us) ≡ any_of (any_of ts ∷ us)
unfolding any_of
any_append [] us = refl
any_append (true ∷ ts) us = refl
any_append (false ∷ ts) us = any_append ts us

-- both hold, as code writes it
pub both_pick : (a b : Bool) → (a && b) ≡ pick a b false
both_pick true b = refl
both_pick false b = refl

pub or_false : (a b : Bool) → (a || b) ≡ false → (a ≡ false) × (b ≡ false)
or_false true b e = let q : ◌≡◌ {A = ℕ} 0 1 = cc in absurd (omega arith)
or_false false b e = (refl, e)

-- a list of tests as code writes it, from the first to the last: (t || u) || v
abbrev pub or_all : Bool → List Bool → Bool
or_all t [] = t
or_all t (u ∷ us) = or_all (t || u) us

pub any_of_lem : (t : Bool) (us : List Bool) → or_all t us ≡ any_of (t ∷ us)
unfolding any_of
any_of_lem true [] = refl
any_of_lem false [] = refl
any_of_lem true (u ∷ us) = any_of_lem true us
any_of_lem false (u ∷ us) = any_of_lem u us
