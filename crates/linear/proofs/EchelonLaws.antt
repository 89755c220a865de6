-- What elimination keeps: the reduced rows and the combinations come of the given rows by one operation that can be undone
-- (Reduction), and the reduced rows have their pivots alone in their columns (Shape). Assumes nothing.
use mathlib.Core.Path.{◌≡◌, refl, sym, ◌∙◌, ap}
use mathlib.Core.Logic.{◌≢◌}
use Prim.Native.Nat.{ℕ, ◌<◌, ◌≤◌, ◌+◌}
use native.Mathlib.Omega.{arith}
use native.Mathlib.Decide.{ℕ_discrete}
use lib.Bits.{xor_self, xor_zero_r}
use Rattle.field.specs.Field.{plus, times}
use Rattle.field.proofs.TimesLaws.{times_zero}
use Rattle.linear.specs.PrivateElimination.{Matrix}
use Rattle.linear.specs.PrivateSteps.{Vec, sel, unit_at, swap_op, scale_op, clear_op}
use Rattle.linear.proofs.RowOperationLaws.{times_one, sel_same, sel_other, sel_case, Op, id_op, comp_op}

-- the rows e and their combinations t are what one operation makes of the rows a and of the unit matrix
pub record Reduction (k m : ℕ) (a e t : Matrix) : Type 0 where
  pub op : Vec → Vec
  pub undo : Vec → Vec
  pub is : Op k op undo
  pub rows : (i j : ℕ) → i < k → j < m → e i j ≡ op (λ l. a l j) i
  pub comb : (i j : ℕ) → i < k → j < k → t i j ≡ op (unit_at j) i

pub reduction_start : (k m : ℕ) (a t : Matrix) → ((i j : ℕ) → i < k → j < k → t i j ≡ unit_at j i) → Reduction k m a a t
reduction_start k m a t h = record { op = λ u. u; undo = λ u. u; is = id_op k; rows = λ i j l b. refl; comb = h }

pub reduction_next : (k m : ℕ) (a e t e' t' : Matrix) {f g : Vec → Vec} → Op k f g → Reduction k m a e t
    → ((i j : ℕ) → i < k → j < m → e' i j ≡ f (λ l. e l j) i)
    → ((i j : ℕ) → i < k → j < k → t' i j ≡ f (λ l. t l j) i)
    → Reduction k m a e' t'
reduction_next k m a e t e' t' {f} {g} o r h b =
    record {
      op = λ u. f (r.op u);
      undo = λ u. r.undo (g u);
      is = comp_op k r.is o;
      rows = λ i j l n. h i j l n ∙ o.fwd.ext (λ l. e l j) (r.op (λ l. a l j)) (λ q c. r.rows q j c n) i l;
      comb = λ i j l n. b i j l n ∙ o.fwd.ext (λ l. t l j) (r.op (unit_at j)) (λ q c. r.comb q j c n) i l;
    }

-- row i < r has its pivot in column p i; the columns below col are done
pub record Shape (k col r : ℕ) (e : Matrix) (p : Vec) : Type 0 where
  pub low : r ≤ k
  pub within : r ≤ col
  pub before : (i : ℕ) → i < r → p i < col
  pub alone : (i l : ℕ) → i < r → l < k → e l (p i) ≡ unit_at i l
  pub rest : (i j : ℕ) → r ≤ i → i < k → j < col → e i j ≡ 0
  pub whole : r ≡ col → (i : ℕ) → i < r → p i ≡ i
  pub free : r < col → (f : ℕ) × (f < col) × ((i : ℕ) → i < r → p i ≢ f)

pub shape_start : (k : ℕ) (e : Matrix) → Shape k 0 0 e (λ i. 0)
shape_start k e =
    record {
      low = omega arith;
      within = omega arith;
      before = λ i l. absurd (omega arith);
      alone = λ i l h b. absurd (omega arith);
      rest = λ i j h b c. absurd (omega arith);
      whole = λ q i l. absurd (omega arith);
      free = λ l. absurd (omega arith);
    }

-- the columns that are done stay as they are
pub shape_kept : (k col r : ℕ) (e e' : Matrix) (p : Vec) → Shape k col r e p → ((i j : ℕ) → i < k → j < col → e' i j ≡ e i j) → Shape k col r e' p
shape_kept k col r e e' p s h =
    record {
      low = s.low;
      within = s.within;
      before = s.before;
      alone = λ i l b c. h l (p i) c (s.before i b) ∙ s.alone i l b c;
      rest = λ i j b c n. h i j c n ∙ s.rest i j b c n;
      whole = s.whole;
      free = s.free;
    }

-- no pivot in this column
pub shape_skip : (k col r : ℕ) (e : Matrix) (p : Vec) → Shape k col r e p → ((i : ℕ) → i < k → r ≤ i → e i col ≡ 0) → Shape k (col + 1) r e p
shape_skip k col r e p s h =
    record {
      low = s.low;
      within = omega (arith, s.within);
      before = λ i l. omega (arith, s.before i l);
      alone = s.alone;
      rest = λ i j b c n. rest' i j b c n (ℕ_discrete j col);
      whole = λ q i l. absurd (omega (arith, s.within));
      free = λ l. (col, omega arith, λ i b q. omega (arith, s.before i b));
    }
  where
    rest' : (i j : ℕ) → r ≤ i → i < k → j < col + 1 → Dec (j ≡ col) → e i j ≡ 0
    rest' i j b c n (yes q) = ap (e i) q ∙ h i c b
    rest' i j b c n (no q) = s.rest i j b c (omega arith)

-- a pivot in this column, in row r
pub shape_more : (k col r : ℕ) (e : Matrix) (p : Vec) → Shape k col r e p → r < k → ((i : ℕ) → i < k → e i col ≡ unit_at r i)
    → Shape k (col + 1) (r + 1) e (λ i. sel i r col (p i))
shape_more k col r e p s hr h =
    record {
      low = omega arith;
      within = omega (arith, s.within);
      before = λ i l. sel_case (λ x. x < col + 1) i r _ _ (λ q. omega arith) (λ q. omega (arith, s.before i (omega arith)));
      alone =
          λ i l b c.
          sel_case (λ x. e l x ≡ unit_at i l) i r _ _ (λ q. h l c ∙ ap (λ (x : ℕ). unit_at x l) (sym q)) (λ q. s.alone i l (omega arith) c);
      rest = λ i j b c n. rest' i j b c n (ℕ_discrete j col);
      whole = λ z i l. sel_case (λ x. x ≡ i) i r _ _ (λ q. omega arith) (λ q. s.whole (omega arith) i (omega arith));
      free = λ l. free' (s.free (omega arith));
    }
  where
    rest' : (i j : ℕ) → r + 1 ≤ i → i < k → j < col + 1 → Dec (j ≡ col) → e i j ≡ 0
    rest' i j b c n (yes q) = ap (e i) q ∙ h i c ∙ sel_other i r 1 0 (λ x. omega arith)
    rest' i j b c n (no q) = s.rest i j (omega arith) c (omega arith)

    free' : (f : ℕ) × (f < col) × ((i : ℕ) → i < r → p i ≢ f) → (f : ℕ) × (f < col + 1) × ((i : ℕ) → i < r + 1 → sel i r col (p i) ≢ f)
    free' w = (w.0, omega (arith, w.1), λ i l. sel_case (λ x. x ≢ w.0) i r _ _ (λ q x. omega (arith, w.1, x)) (λ q. w.2 i (omega arith)))

-- ---- the three operations leave the columns that are done as they are

module _ (k col r : ℕ) (e : Matrix) (p : Vec) (s : Shape k col r e p) (hr : r < k) where
  pub swap_kept : (q : ℕ) → r ≤ q → q < k → (i j : ℕ) → i < k → j < col → swap_op r q (λ l. e l j) i ≡ e i j
  swap_kept q hq lq i j l b =
      sel_case (λ z. e z j ≡ e i j) i r q _ (λ x. s.rest q j hq lq b ∙ sym (s.rest i j (omega arith) l b))
      (λ x. sel_case (λ z. e z j ≡ e i j) i q r i (λ y. s.rest r j (omega arith) hr b ∙ sym (s.rest i j (omega arith) l b)) (λ y. refl))

  pub scale_kept : (c i j : ℕ) → i < k → j < col → scale_op r c (λ l. e l j) i ≡ e i j
  scale_kept c i j l b =
      sel_case (λ z. z ≡ e i j) i r _ _
      (λ x. ap (times c) (s.rest i j (omega arith) l b) ∙ times_zero c ∙ sym (s.rest i j (omega arith) l b)) (λ x. refl)

  pub clear_kept : (b : Vec) (i j : ℕ) → i < k → j < col → clear_op r b (λ l. e l j) i ≡ e i j
  clear_kept b i j l n =
      sel_case (λ z. z ≡ e i j) i r _ _ (λ x. refl)
      (λ x. ap (λ (z : ℕ). plus (e i j) (times (b i) z)) (s.rest r j (omega arith) hr n) ∙ ap (plus (e i j)) (times_zero (b i)) ∙ xor_zero_r (e i j))

-- the column of the pivot, once row r is scaled
pub clear_col : (r : ℕ) (u : Vec) → u r ≡ 1 → (i : ℕ) → u i < 256 → clear_op r u u i ≡ unit_at r i
clear_col r u e i h = go (ℕ_discrete i r)
  where
    go : Dec (i ≡ r) → clear_op r u u i ≡ unit_at r i
    go (yes x) = sel_same i r _ _ x ∙ ap u x ∙ e ∙ sym (sel_same i r 1 0 x)
    go (no x) =
        sel_other i r _ _ x ∙ ap (λ (z : ℕ). plus (u i) (times (u i) z)) e
        ∙ ap (plus (u i)) (times_one h) ∙ xor_self (u i) ∙ sym (sel_other i r 1 0 x)
