-- A test at each number below n, which antt computes, and the law that turns it into the rule at each number.
-- Assumes nothing.
use Prim.Native.Nat.{ℕ, zero, suc, ◌<◌}
use mathlib.Core.Path.{◌≡◌, refl}
use mathlib.Core.Bool.{Bool, true, false}
use mathlib.Core.Logic.{⊎_elim}
use native.Mathlib.Nat.{eq-or-lt_of_le, le_of_suc-le-suc, not-suc-le-zero}
use lib.Dec.{T}
use Rattle.lists.specs.Lists.{pick}

unfoldable pub all : ℕ → (ℕ → Bool) → Bool
all zero p = true
all (suc n) p = pick (p n) (all n p) false

pub told : (b : Bool) → T b → b ≡ true
told true t = refl
told false t = absurd t

pub both : (a b : Bool) → T (pick a b false) → T a × T b
both true b t = (tt, t)
both false b t = absurd t

pub all_at : (n : ℕ) (p : ℕ → Bool) → T (all n p) → (i : ℕ) → i < n → T (p i)
unfolding all
all_at zero p t i l = absurd (not-suc-le-zero l)
all_at (suc n) p t i l =
    ⊎_elim (λ (q : i ≡ n). rw q (both (p n) (all n p) t).0) (λ (m : i < n). all_at n p (both (p n) (all n p) t).1 i m)
    (eq-or-lt_of_le (le_of_suc-le-suc l))
