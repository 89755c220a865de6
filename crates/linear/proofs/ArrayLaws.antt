-- What a 16 by 16 array by value says of its elements, and reads of rows after a store. Assumes nothing.
use mathlib.Core.Path.{◌≡◌, sym, ◌∙◌, ap, subst}
use mathlib.Core.Logic.{◌≢◌}
use mathlib.Core.List.{List, [], ◌∷◌}
use Prim.Native.Nat.{ℕ, zero, suc, ◌<◌, ◌+◌}
use native.Mathlib.Omega.{arith}
use native.Mathlib.Decide.{ℕ_discrete}
use lib.ListN.{length, get_or, set}
use lib.Seq.{get_or-set_same, get_or-set_other}
use mir.Syntax.{w8}
use mir.Val.{Val}
use denote.Shadow.{shadow}
use denote.Array.{Array, each}
use denote.Plain.{UInt}
use borrow.Author.Rules.{elem_Fits}
use Rattle.lists.specs.Lists.{at}
use Rattle.linear.specs.PrivateElimination.{cells}

pub row_bytes : (xs : List ℕ) (us : List Val) → shadow ((Array (UInt w8) 16).own_val xs us) → (j : ℕ) → at xs j < 256
row_bytes xs us p j = (elem_Fits w8 w8 xs p.0 j p.1.1 tt).fits

pub cell_bytes : (xs : List (List ℕ)) (us : List Val) → shadow (each (List ℕ) (Array (UInt w8) 16).own_val xs us) → (i j : ℕ) → cells xs i j < 256
cell_bytes [] us p i j = omega arith
cell_bytes (x ∷ xs) [] p i j = absurd p
cell_bytes (x ∷ xs) (u ∷ us) p zero j = row_bytes x (u ∷ []) p.0 j
cell_bytes (x ∷ xs) (u ∷ us) p (suc i) j = cell_bytes xs us p.1 i j

-- row i is stored
pub cell_same : (a : List (List ℕ)) (i p j : ℕ) (v : List ℕ) → p ≡ i → i < length a → cells (set a i v) p j ≡ at v j
cell_same a i p j v e h = ap (λ (n : ℕ). cells (set a i v) n j) e ∙ ap (λ (r : List ℕ). at r j) (get_or-set_same a i v [] h)

pub cell_other : (a : List (List ℕ)) (i p j : ℕ) (v : List ℕ) → p ≢ i → cells (set a i v) p j ≡ cells a p j
cell_other a i p j v h = ap (λ (r : List ℕ). at r j) (get_or-set_other a i p v [] h)

-- what holds of each element below j holds below j + 1 once x, of which it holds, is stored at j
pub stored : {A : Type 0} (d : A) (l : List A) (j : ℕ) (x : A) (P : ℕ → A → Type 0) → j < length l → ((q : ℕ) → q < j → P q (get_or l q d)) → P j x
    → (q : ℕ) → q < j + 1 → P q (get_or (set l j x) q d)
stored {A = A} d l j x P h b y q n = go (ℕ_discrete q j)
  where
    go : Dec (q ≡ j) → P q (get_or (set l j x) q d)
    go (yes e) = subst (λ (m : ℕ). P m (get_or (set l j x) m d)) (sym e) (subst (λ (z : A). P j z) (sym (get_or-set_same l j x d h)) y)
    go (no e) = subst (λ (z : A). P q z) (sym (get_or-set_other l j q x d e)) (b q (omega arith))

-- the elements past the one that is stored stay
pub stored_kept : {A : Type 0} (d : A) (l : List A) (j q : ℕ) (x : A) → j < q → get_or (set l j x) q d ≡ get_or l q d
stored_kept d l j q x h = get_or-set_other l j q x d (λ e. omega arith)
