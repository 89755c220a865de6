-- The stores of the helpers make what their operations make. Assumes nothing.
use mathlib.Core.Path.{◌≡◌, refl, sym, ◌∙◌, ap, ap₂}
use mathlib.Core.Logic.{◌≢◌}
use mathlib.Core.List.{List, []}
use Prim.Native.Nat.{ℕ, ◌<◌, ◌≤◌, ◌+◌}
use native.Mathlib.Omega.{arith}
use native.Mathlib.Decide.{ℕ_discrete}
use lib.Bits.{xor_zero_l}
use lib.ListN.{length, get_or, set, length-set, replicate, get_or-replicate}
use lib.Seq.{get_or-set_same, get_or-set_other}
use Rattle.lists.specs.Lists.{at}
use Rattle.field.specs.Field.{plus, times}
use Rattle.linear.specs.PrivateElimination.{cells}
use Rattle.linear.specs.PrivateSteps.{unit_at, swap, swap_op, scale_op, clear_op, Operated}
use Rattle.linear.proofs.RowOperationLaws.{sel_same, sel_other}
use Rattle.linear.proofs.ArrayLaws.{cell_same, cell_other, stored, stored_kept}

-- the row of zeros adds nothing
pub to_zeros : (x j : ℕ) → j < 16 → plus (at (replicate 16 0) j) x ≡ x
to_zeros x j l = ap (λ (z : ℕ). plus z x) (get_or-replicate 16 j 0 0 l) ∙ xor_zero_l x

-- row i of the unit matrix
pub units : (i j : ℕ) → i < 16 → j < 16 → at (set (replicate 16 0) i 1) j ≡ unit_at j i
units i j l b = go (ℕ_discrete i j)
  where
    go : Dec (i ≡ j) → at (set (replicate 16 0) i 1) j ≡ unit_at j i
    go (yes e) = ap (at (set (replicate 16 0) i 1)) (sym e) ∙ get_or-set_same (replicate 16 0) i 1 0 l ∙ sym (sel_same i j 1 0 e)
    go (no e) = get_or-set_other (replicate 16 0) i j 1 0 (λ x. e (sym x)) ∙ get_or-replicate 16 j 0 0 b ∙ sym (sel_other i j 1 0 e)

pub swaps : (a : List (List ℕ)) (i j : ℕ) → length a ≡ 16 → i < 16 → j < 16 → Operated 16 (swap_op i j) a (set (set a i (get_or a j [])) j (get_or a i []))
swaps a i j n hi hj p q l b = go (ℕ_discrete p i) (ℕ_discrete p j)
  where
    first : List (List ℕ)
    first = set a i (get_or a j [])

    long : j < length first
    long = rw length-set (omega arith)

    go : Dec (p ≡ i) → Dec (p ≡ j) → cells (set first j (get_or a i [])) p q ≡ cells a (swap i j p) q
    go (yes x) (yes y) = cell_same first j p q _ y long ∙ ap (λ (z : ℕ). cells a z q) (sym x ∙ y ∙ sym (sel_same p i j _ x))
    go (yes x) (no y) = cell_other first j p q _ y ∙ cell_same a i p q _ x (omega arith) ∙ ap (λ (z : ℕ). cells a z q) (sym (sel_same p i j _ x))
    go (no x) (yes y) = cell_same first j p q _ y long ∙ ap (λ (z : ℕ). cells a z q) (sym (sel_other p i j _ x ∙ sel_same p j i p y))
    go (no x) (no y) = cell_other first j p q _ y ∙ cell_other a i p q _ x ∙ ap (λ (z : ℕ). cells a z q) (sym (sel_other p i j _ x ∙ sel_other p j i p y))

pub scales : (a : List (List ℕ)) (r x : ℕ) (v : List ℕ) → length a ≡ 16 → r < 16 → ((j : ℕ) → j < 16 → at v j ≡ times x (cells a r j))
    → Operated 16 (scale_op r x) a (set a r v)
scales a r x v n h e p q l b = go (ℕ_discrete p r)
  where
    go : Dec (p ≡ r) → cells (set a r v) p q ≡ scale_op r x (λ l. cells a l q) p
    go (yes y) = cell_same a r p q v y (omega arith) ∙ e q b ∙ ap (λ (z : ℕ). times x (cells a z q)) (sym y) ∙ sym (sel_same p r _ _ y)
    go (no y) = cell_other a r p q v y ∙ sym (sel_other p r _ _ y)

-- `out` is a with its rows below i cleared by the column of `by`
module _ (a by : List (List ℕ)) (r col : ℕ) where
  abbrev cleared : ℕ → List ℕ → Type 0
  cleared p v = (q : ℕ) → q < 16 → at v q ≡ clear_op r (λ l. cells by l col) (λ l. cells a l q) p

  pub record Clearing (out : List (List ℕ)) (i : ℕ) : Type 0 where
    pub long : length out ≡ 16
    pub done : (p : ℕ) → p < i → cleared p (get_or out p [])
    pub kept : (p : ℕ) → i ≤ p → get_or out p [] ≡ get_or a p []
    -- the row that clears the others
    pub pivot : get_or out r [] ≡ get_or a r []

  pub clear_start_lem : length a ≡ 16 → Clearing a 0
  clear_start_lem l = record { long = l; done = λ p h. absurd (omega arith); kept = λ p h. refl; pivot = refl }

  -- row r itself
  pub clear_skip : (out : List (List ℕ)) (i : ℕ) → i ≡ r → Clearing out i → Clearing out (i + 1)
  clear_skip out i e w =
      record { long = w.long; done = λ p l. go p l (ℕ_discrete p i); kept = λ p l. w.kept p (omega arith); pivot = w.pivot }
    where
      go : (p : ℕ) → p < i + 1 → Dec (p ≡ i) → cleared p (get_or out p [])
      go p l (yes x) q b = ap (λ (y : List ℕ). at y q) (w.kept p (omega arith)) ∙ sym (sel_same p r _ _ (x ∙ e))
      go p l (no x) q b = w.done p (omega arith) q b

  -- the element of the next row by which it is cleared
  pub clear_by : (out : List (List ℕ)) (i : ℕ) → Clearing out i → cells out i col ≡ cells a i col
  clear_by out i w = ap (λ (v : List ℕ). at v col) (w.kept i (omega arith))

  -- another row
  pub clear_store : (out : List (List ℕ)) (i x : ℕ) (v : List ℕ) → i ≢ r → i < 16 → Clearing out i → x ≡ cells by i col
      → ((q : ℕ) → q < 16 → at v q ≡ plus (cells out i q) (times x (cells out r q))) → Clearing (set out i v) (i + 1)
  clear_store out i x v other l w e h =
      record {
        long = length-set out i v ∙ w.long;
        done = stored [] out i v cleared (omega (arith, w.long)) w.done made;
        kept = λ p b. stored_kept [] out i p v (omega arith) ∙ w.kept p (omega arith);
        pivot = get_or-set_other out i r v [] (λ y. other (sym y)) ∙ w.pivot;
      }
    where
      made : cleared i v
      made q b =
          h q b
          ∙ ap₂ (λ (y z : List ℕ). plus (at y q) (times x (at z q))) (w.kept i (omega arith)) w.pivot
          ∙ ap (λ (y : ℕ). plus (cells a i q) (times y (cells a r q))) e ∙ sym (sel_other i r _ _ other)

  pub clear_end : (out : List (List ℕ)) (k i : ℕ) → k ≤ i → Clearing out i → Operated k (clear_op r (λ l. cells by l col)) a out
  clear_end out k i h w p q l b = w.done p (omega arith) q b
