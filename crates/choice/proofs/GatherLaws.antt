-- A combination of the rows listed in order is one of the rows taken. Assumes nothing.
use Prim.Native.Nat.{ℕ, zero, suc, ◌+◌, ◌<◌}
use mathlib.Core.Path.{◌≡◌, refl, sym, ap, ◌∙◌}
use mathlib.Core.Bool.{Bool, true, false}
use native.Mathlib.Nat.{add-zero}
use native.Mathlib.Omega.{arith}
use lib.Bits.{xor_zero_r}
use Rattle.lists.specs.Lists.{pick, bit, how_many}
use Rattle.field.specs.Field.{plus, sum, times}
use Rattle.field.proofs.SumLaws.{sum_none, sum_last, sum_more}
use Rattle.field.proofs.TimesLaws.{times_zero}
use Rattle.vector.specs.Vectors.{mixed}
use Rattle.vector.specs.Taken.{Spanned, only}

module _ (taken : ℕ → Bool) (numbers : ℕ → ℕ) (row : ℕ → ℕ → ℕ) where
  -- the taken rows below k are listed in order
  abbrev pub Lists : ℕ → Type 0
  Lists k = (j : ℕ) → j < k → taken j ≡ true → numbers (how_many j taken) ≡ j

  -- the coefficient of a taken row is that of the row listed
  pub spread : (y : ℕ → ℕ) (i k : ℕ) → Lists k
      → mixed k (λ j. y (how_many j taken)) (only taken row) i ≡ mixed (how_many k taken) y (λ t. row (numbers t)) i
  unfolding mixed how_many
  spread y i zero listed = sym (sum_none _) ∙ sum_none _
  spread y i (suc k) listed =
      sum_last k (λ j. times (y (how_many j taken)) (only taken row j i)) ∙ go (taken k) refl (spread y i k (λ j l. listed j (omega arith)))
    where
      go : (t : Bool) → taken k ≡ t
          → sum k (λ j. times (y (how_many j taken)) (only taken row j i)) ≡ sum (how_many k taken) (λ t. times (y t) (row (numbers t) i))
          → plus (sum k (λ j. times (y (how_many j taken)) (only taken row j i))) (times (y (how_many k taken)) (pick t (row k i) 0))
          ≡ sum (how_many k taken + bit t) (λ t. times (y t) (row (numbers t) i))
      go true e before =
          sum_more (how_many k taken) (λ t. times (y t) (row (numbers t) i)) before
          (ap (λ (p : ℕ). times (y (how_many k taken)) (row p i)) (sym (listed k (omega arith) e)))
      go false e before = rw (times_zero (y (how_many k taken)), xor_zero_r, add-zero) before

  -- so what the listed rows span the rows taken span
  pub spanned_listed : (m k : ℕ) {v : ℕ → ℕ} → Lists k → Spanned (how_many k taken) m (λ t. row (numbers t)) v → Spanned k m (only taken row) v
  spanned_listed m k listed s = (λ j. s.0 (how_many j taken), λ i l. s.1 i l ∙ sym (spread s.0 i k listed))
