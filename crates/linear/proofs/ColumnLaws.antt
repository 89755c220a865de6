-- What the loop over the columns keeps: at the start, by a column without a pivot, by one with a pivot, and at the end. Assumes nothing.
use mathlib.Core.Path.{◌≡◌, sym, ◌∙◌, ap, subst}
use mathlib.Core.List.{List}
use Prim.Native.Nat.{ℕ, ◌<◌, ◌≤◌, ◌+◌}
use native.Mathlib.Omega.{arith}
use Rattle.field.specs.Field.{times}
use Rattle.linear.specs.PrivateElimination.{Matrix, cells, Reduces}
use Rattle.linear.specs.PrivateSteps.{Vec, unit_at, swap_op, scale_op, clear_op, Operated}
use Rattle.linear.proofs.RowOperationLaws.{sel_self, swap_op_lem, scale_op_lem, clear_op_lem}
use Rattle.linear.proofs.EchelonLaws.{Reduction, Shape, reduction_start, reduction_next, shape_start, shape_kept, shape_skip, shape_more, swap_kept, scale_kept, clear_kept, clear_col}
use Rattle.linear.proofs.RankLaws.{entry_lt, reduces}

pub record Head (k m : ℕ) (a e t : Matrix) (rank col : ℕ) : Type 0 where
  pub most : col ≤ m
  pub pivots : Vec
  pub reduction : Reduction k m a e t
  pub shape : Shape k col rank e pivots

pub head_start : (k m : ℕ) (a t : Matrix) → ((i j : ℕ) → i < k → j < k → t i j ≡ unit_at j i) → Head k m a a t 0 0
head_start k m a t h = record { most = omega arith; pivots = λ i. 0; reduction = reduction_start k m a t h; shape = shape_start k a }

pub head_at : {k m : ℕ} {a e t : Matrix} {rank col col₀ : ℕ} → col ≡ col₀ → Head k m a e t rank col₀ → Head k m a e t rank col
head_at {k} {m} {a} {e} {t} {rank} same h = subst (Head k m a e t rank) (sym same) h

-- what the search for a pivot keeps: of the rows from `from` on, those before r have zero in the column
abbrev pub Passed : Matrix → ℕ → ℕ → ℕ → Type 0
Passed e col from r = (i : ℕ) → i < r → from ≤ i → e i col ≡ 0

pub head_skip : (k m : ℕ) (a e t : Matrix) (rank col r : ℕ) → Head k m a e t rank col → col < m → Passed e col rank r → k ≤ r → Head k m a e t rank (col + 1)
head_skip k m a e t rank col r h l p b =
    record {
      most = omega arith;
      pivots = h.pivots;
      reduction = h.reduction;
      shape = shape_skip k col rank e h.pivots h.shape (λ i n low. p i (omega arith) low);
    }

-- a turn of the loop: rows swapped, the pivot's row scaled by x, the other rows cleared
module _ (k m : ℕ) (a : Matrix) (ab : (i j : ℕ) → a i j < 256) (hk : k ≤ 16) (hm : m ≤ 16) (e t e₁ t₁ e₂ t₂ e₃ t₃ : List (List ℕ)) (rank col q x : ℕ)
    (h : Head k m a (cells e) (cells t) rank col) (l : col < m) (low : rank ≤ q) (lq : q < k) (hx : times x (cells e q col) ≡ 1)
    (me₁ : Operated 16 (swap_op rank q) e e₁) (mt₁ : Operated 16 (swap_op rank q) t t₁) (me₂ : Operated 16 (scale_op rank x) e₁ e₂) (mt₂ : Operated 16 (scale_op rank x) t₁ t₂)
    (mt₃ : Operated k (clear_op rank (λ i. cells e₂ i col)) t₂ t₃) (me₃ : Operated k (clear_op rank (λ i. cells e₂ i col)) e₂ e₃) where
  hr : rank < k
  hr = omega arith

  r₁ : Reduction k m a (cells e₁) (cells t₁)
  r₁ =
      reduction_next k m a (cells e) (cells t) (cells e₁) (cells t₁) (swap_op_lem k rank q hr lq) h.reduction
      (λ i j n b. me₁ i j (omega arith) (omega arith)) (λ i j n b. mt₁ i j (omega arith) (omega arith))

  r₂ : Reduction k m a (cells e₂) (cells t₂)
  r₂ =
      reduction_next k m a (cells e₁) (cells t₁) (cells e₂) (cells t₂) (scale_op_lem k rank x (cells e q col) hx) r₁
      (λ i j n b. me₂ i j (omega arith) (omega arith)) (λ i j n b. mt₂ i j (omega arith) (omega arith))

  r₃ : Reduction k m a (cells e₃) (cells t₃)
  r₃ =
      reduction_next k m a (cells e₂) (cells t₂) (cells e₃) (cells t₃) (clear_op_lem k rank (λ i. cells e₂ i col) hr) r₂
      (λ i j n b. me₃ i j n (omega arith)) (λ i j n b. mt₃ i j n (omega arith))

  s₁ : Shape k col rank (cells e₁) h.pivots
  s₁ =
      shape_kept k col rank (cells e) (cells e₁) h.pivots h.shape
      (λ i j n b. me₁ i j (omega arith) (omega arith) ∙ swap_kept k col rank (cells e) h.pivots h.shape hr q low lq i j n b)

  s₂ : Shape k col rank (cells e₂) h.pivots
  s₂ =
      shape_kept k col rank (cells e₁) (cells e₂) h.pivots s₁
      (λ i j n b. me₂ i j (omega arith) (omega arith) ∙ scale_kept k col rank (cells e₁) h.pivots s₁ hr x i j n b)

  s₃ : Shape k col rank (cells e₃) h.pivots
  s₃ =
      shape_kept k col rank (cells e₂) (cells e₃) h.pivots s₂
      (λ i j n b. me₃ i j n (omega arith) ∙ clear_kept k col rank (cells e₂) h.pivots s₂ hr (λ i. cells e₂ i col) i j n b)

  one : cells e₂ rank col ≡ 1
  one =
      me₂ rank col (omega arith) (omega arith) ∙ sel_self rank _ _
      ∙ ap (times x) (me₁ rank col (omega arith) (omega arith) ∙ ap (λ (z : ℕ). cells e z col) (sel_self rank q _)) ∙ hx

  pub head_step : Head k m a (cells e₃) (cells t₃) (rank + 1) (col + 1)
  head_step =
      record {
        most = omega arith;
        pivots = _;
        reduction = r₃;
        shape =
            shape_more k col rank (cells e₃) h.pivots s₃ hr
            (λ i n. me₃ i col n (omega arith) ∙ clear_col rank (λ i. cells e₂ i col) one i (entry_lt k m a (cells e₂) (cells t₂) ab r₂ i col n l));
      }

pub head_end : (k m : ℕ) (a e t : Matrix) (rank col : ℕ) → ((i j : ℕ) → a i j < 256) → Head k m a e t rank col → m ≤ col → Reduces k m a t rank
head_end k m a e t rank col ab h l =
    reduces k m a e t ab h.reduction rank h.pivots (subst (λ (n : ℕ). Shape k n rank e h.pivots) (omega (arith, h.most)) h.shape)
