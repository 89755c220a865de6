-- Elimination on the columns of r rows: where the rows are independent, the first r combinations see a row each, and a vector that the
-- others do not see is a combination of the rows. Assumes nothing.
use Prim.Native.Nat.{ℕ, ◌<◌, ◌≤◌}
use mathlib.Core.Path.{◌≡◌, sym, ap, ◌∙◌}
use mathlib.Core.Logic.{⊎_elim}
use native.Mathlib.Omega.{arith}
use lib.Bits.{xor_self, xor_lt}
use Rattle.lists.proofs.TabLaws.{order}
use Rattle.field.specs.Field.{plus, sum, times}
use Rattle.field.proofs.XorLaws.{xor_equal}
use Rattle.field.proofs.SumLaws.{sum_same, sum_zero, sum_one}
use Rattle.field.proofs.TimesLaws.{times_comm, times_zero}
use Rattle.vector.specs.Vectors.{product, mixed}
use Rattle.vector.proofs.VectorLaws.{product_left, product_mixed, mixed_lt}
use Rattle.linear.specs.PrivateElimination.{Matrix, BytesTo, Independent, Reduces, turned}
use Rattle.linear.specs.PrivateSteps.{Vec, unit_at}
use Rattle.linear.proofs.RowOperationLaws.{times_one, sel_other, sel_self, unit_byte}
use Rattle.linear.proofs.RankLaws.{product_lt, by_unit}

product_comm : (n : ℕ) (u v : Vec) → product n u v ≡ product n v u
unfolding product
product_comm n u v = sum_same n _ _ (λ i l. times_comm (u i) (v i))

module _ (r m rank : ℕ) (a t : Matrix) (low : (i j : ℕ) → i < r → a i j < 256) (R : Reduces m r (turned a) t rank) where
  -- a column times y is the combination of the rows by y
  column_product : (y : Vec) (c : ℕ) → product r (turned a c) y ≡ mixed r y a c
  unfolding product mixed
  column_product y c = sum_same r _ _ (λ i l. times_comm (a i c) (y i))

  pub ranked : Independent r m a → rank ≡ r
  ranked h = R.determining.1 (λ y bytes zeros. h y bytes (λ c l. sym (column_product y c) ∙ zeros c l))

  module _ (full : rank ≡ r) where
    alone : (i j : ℕ) → i < r → j < r → product m (a j) (t i) ≡ unit_at j i
    alone i j l b =
        product_comm m (a j) (t i)
        ∙ sym (R.solution full (unit_at j) (a j) (λ k h. unit_byte j k) (λ c h. low j c b) (λ c h. by_unit r j (turned a c) b (low j c b)) i l)

    -- a combination past them sees no row
    pub past : (i j : ℕ) → r ≤ i → i < m → j < r → product m (a j) (t i) ≡ 0
    unfolding product mixed
    past i j h l b = product_comm m (a j) (t i) ∙ R.rest i j (omega arith) l b

    module _ (w : Vec) (bytes : BytesTo m w) (unseen : (i : ℕ) → r ≤ i → i < m → product m w (t i) ≡ 0) where
      -- the coefficients
      abbrev y : Vec
      y i = product m w (t i)

      -- what is left of w without its combination
      abbrev left : Vec
      left c = plus (mixed r y a c) (w c)

      seen : (i : ℕ) → i < m → product m (mixed r y a) (t i) ≡ y i
      seen i l = product_mixed m r y a (t i) ∙ ⊎_elim here beyond (order i r)
        where
          here : i < r → sum r (λ j. times (y j) (product m (a j) (t i))) ≡ y i
          here h =
              sum_same r _ (λ j. times (y j) (unit_at j i)) (λ j b. ap (times (y j)) (alone i j h b))
              ∙ sum_one r i (λ j. times (y j) (unit_at j i)) h (λ j b d. ap (times (y j)) (sel_other i j 1 0 (λ e. d (sym e))) ∙ times_zero (y j))
              ∙ ap (times (y i)) (sel_self i 1 0) ∙ times_one (product_lt m w (t i))

          beyond : r ≤ i → sum r (λ j. times (y j) (product m (a j) (t i))) ≡ y i
          beyond h = sum_zero r _ (λ j b. ap (times (y j)) (past i j h l b) ∙ times_zero (y j)) ∙ sym (unseen i h l)

      nothing_left : (c : ℕ) → c < m → left c ≡ 0
      nothing_left =
          R.whole left (λ c l. xor_lt 8 _ _ (mixed_lt r y a c) (bytes c l))
          (λ i l.
          product_comm m (t i) left ∙ product_left m (mixed r y a) w (t i) ∙ ap (λ (x : ℕ). plus x (y i)) (seen i l) ∙ xor_self (y i))

      pub reached : (c : ℕ) → c < m → mixed r y a c ≡ w c
      reached c l = xor_equal (nothing_left c l)
