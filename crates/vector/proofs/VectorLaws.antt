-- Combinations are linear in their coefficients, products in both vectors. Assumes nothing.
use Prim.Native.Nat.{ℕ, zero, suc, ◌+◌, ◌-◌, ◌<◌, ◌≤◌}
use mathlib.Core.Path.{◌≡◌, refl, sym, ap, ◌∙◌}
use mathlib.Core.Bool.{Bool, true, false, not, ◌&&◌}
use mathlib.Core.List.{List, [], ◌∷◌}
use mathlib.Core.Logic.{◌≢◌}
use native.Mathlib.Omega.{arith}
use lib.Dec.{eqb, ltb}
use lib.Bits.{xor_zero_r}
use borrow.Author.Tests.{lt-ltb, le-ltb, eq-eqb, ne_eqb}
use lib.ListN.{length}
use Rattle.std.specs.List.{list_all}
use Rattle.lists.specs.Lists.{pick, at, any_below}
use Rattle.lists.proofs.AnyLaws.{any_same, any_none, any_some}
use Rattle.field.specs.Field.{plus, sum, times}
use Rattle.field.proofs.SumLaws.{sum_same, sum_zero, sum_swap, sum_split, sum_plus, sum_lt}
use Rattle.field.proofs.TimesLaws.{times_assoc, times_xor_left, times_xor_right, zero_times, times_lt, times_sum, sum_times}
use Rattle.vector.specs.Vectors.{product, mixed, all_zero}

-- ---- combinations

pub mixed_scale : (c count : ℕ) (r : ℕ → ℕ) (v : ℕ → ℕ → ℕ) (e : ℕ) → times c (mixed count r v e) ≡ mixed count (λ i. times c (r i)) v e
unfolding mixed
mixed_scale c count r v e = times_sum c count _ ∙ sum_same count _ _ (λ i h. sym (times_assoc c (r i) (v i e)))

pub mixed_sum : (k count : ℕ) (r : ℕ → ℕ → ℕ) (v : ℕ → ℕ → ℕ) (e : ℕ)
    → sum k (λ j. mixed count (r j) v e) ≡ mixed count (λ i. sum k (λ j. r j i)) v e
unfolding mixed
mixed_sum k count r v e =
    sum_swap k count (λ j i. times (r j i) (v i e)) ∙ sum_same count _ _ (λ i h. sym (sum_times k (λ j. r j i) (v i e)))

-- a combination of combinations
pub mixed_mixed : (k count : ℕ) (c : ℕ → ℕ) (r v : ℕ → ℕ → ℕ) (e : ℕ) → mixed k c (λ j. mixed count (r j) v) e ≡ mixed count (mixed k c r) v e
unfolding mixed
mixed_mixed k count c r v e =
    sum_same k _ _ (λ j h. mixed_scale (c j) count (r j) v e) ∙ mixed_sum k count (λ j i. times (c j) (r j i)) v e

-- equal coefficients, and equal vectors
pub mixed_same : (count : ℕ) (r r' : ℕ → ℕ) (v : ℕ → ℕ → ℕ) (e : ℕ) → ((i : ℕ) → i < count → r i ≡ r' i) → mixed count r v e ≡ mixed count r' v e
unfolding mixed
mixed_same count r r' v e h = sum_same count _ _ (λ i l. ap (λ (x : ℕ). times x (v i e)) (h i l))

pub mixed_vectors : (count : ℕ) (c : ℕ → ℕ) (v v' : ℕ → ℕ → ℕ) (e : ℕ) → ((i : ℕ) → i < count → v i e ≡ v' i e) → mixed count c v e ≡ mixed count c v' e
unfolding mixed
mixed_vectors count c v v' e h = sum_same count _ _ (λ i l. ap (times (c i)) (h i l))

pub mixed_zero : (count : ℕ) (v : ℕ → ℕ → ℕ) (e : ℕ) → mixed count (λ i. 0) v e ≡ 0
unfolding mixed
mixed_zero count v e = sum_zero count _ (λ i h. zero_times (v i e))

pub mixed_lt : (count : ℕ) (c : ℕ → ℕ) (v : ℕ → ℕ → ℕ) (e : ℕ) → mixed count c v e < 256
unfolding mixed
mixed_lt count c v e = sum_lt 8 count _ (λ i h. times_lt (c i) (v i e))

-- ---- products

pub product_same : (len : ℕ) (u u' k : ℕ → ℕ) → ((i : ℕ) → i < len → u i ≡ u' i) → product len u k ≡ product len u' k
unfolding product
product_same len u u' k h = sum_same len _ _ (λ i l. ap (λ (x : ℕ). times x (k i)) (h i l))

pub product_keys : (len : ℕ) (u k k' : ℕ → ℕ) → ((i : ℕ) → i < len → k i ≡ k' i) → product len u k ≡ product len u k'
unfolding product
product_keys len u k k' h = sum_same len _ _ (λ i l. ap (times (u i)) (h i l))

pub product_left : (len : ℕ) (u u' k : ℕ → ℕ) → product len (λ i. plus (u i) (u' i)) k ≡ plus (product len u k) (product len u' k)
unfolding product
product_left len u u' k = sum_same len _ _ (λ i h. times_xor_left (u i) (u' i) (k i)) ∙ sum_plus len _ _

pub product_right : (len : ℕ) (u k k' : ℕ → ℕ) → product len u (λ i. plus (k i) (k' i)) ≡ plus (product len u k) (product len u k')
unfolding product
product_right len u k k' = sum_same len _ _ (λ i h. times_xor_right (u i) (k i) (k' i)) ∙ sum_plus len _ _

pub product_zero : (len : ℕ) (k : ℕ → ℕ) → product len (λ i. 0) k ≡ 0
unfolding product
product_zero len k = sum_zero len _ (λ i h. zero_times (k i))

-- a product split at an index
pub product_split : (a b : ℕ) (u k : ℕ → ℕ) → product (a + b) u k ≡ plus (product a u k) (product b (λ i. u (a + i)) (λ i. k (a + i)))
unfolding product
product_split a b u k = sum_split a b (λ e. times (u e) (k e))

-- the product of a combination is the combination of the products
pub product_mixed : (len count : ℕ) (r : ℕ → ℕ) (v : ℕ → ℕ → ℕ) (k : ℕ → ℕ) → product len (mixed count r v) k ≡ sum count (λ i. times (r i) (product len (v i) k))
unfolding mixed product
product_mixed len count r v k =
    sum_same len _ _ (λ e h. sum_times count (λ i. times (r i) (v i e)) (k e))
    ∙ sum_swap len count (λ e i. times (times (r i) (v i e)) (k e))
    ∙ sum_same count _ _ (λ i h. sum_same len _ _ (λ e l. times_assoc (r i) (v i e) (k e)) ∙ sym (times_sum (r i) len (λ e. times (v i e) (k e))))

-- a vector that is zero past its first a elements
pub product_cut : (a len : ℕ) (u k : ℕ → ℕ) → a ≤ len → product len (λ i. pick (ltb i a) (u i) 0) k ≡ product a u k
unfolding product
product_cut a len u k h =
    let f : ℕ → ℕ = λ i. times (pick (ltb i a) (u i) 0) (k i) in
    let q : len ≡ a + (len - a) = omega arith in
    let past : sum (len - a) (λ i. f (a + i)) ≡ 0 =
    sum_zero (len - a) (λ i. f (a + i)) (λ i l. rw (le-ltb (a + i) a (omega arith)) (zero_times (k (a + i)))) in
    ap (λ (x : ℕ). sum x f) q ∙ sum_split a (len - a) f ∙ ap (plus (sum a f)) past ∙ xor_zero_r (sum a f)
    ∙ sum_same a f _ (λ i l. rw (lt-ltb i a l))

-- ---- elements that are zero

pub zero_same : (len : ℕ) (u v : ℕ → ℕ) → ((e : ℕ) → e < len → u e ≡ v e) → all_zero len u ≡ all_zero len v
unfolding all_zero
zero_same len u v h = ap not (any_same len _ _ (λ e l. ap (λ (x : ℕ). not (eqb x 0)) (h e l)))

pub zero_all : (len : ℕ) (v : ℕ → ℕ) → ((e : ℕ) → e < len → v e ≡ 0) → all_zero len v ≡ true
unfolding all_zero
zero_all len v h = ap not (any_none len _ (λ e l. ap not (eq-eqb (v e) 0 (h e l))))

pub zero_not : (len : ℕ) (v : ℕ → ℕ) (e : ℕ) → e < len → v e ≢ 0 → all_zero len v ≡ false
unfolding all_zero
zero_not len v e l h = ap not (any_some len _ e l (ap not (ne_eqb (v e) 0 h)))

-- some index below one more: the first, or one of the others
any_first : (n : ℕ) (p : ℕ → Bool) → any_below (suc n) p ≡ pick (p 0) true (any_below n (λ i. p (suc i)))
unfolding any_below
any_first zero p = refl
any_first (suc n) p = ap (pick (p (suc n)) true) (any_first n p) ∙ exchanged (p (suc n)) (p 0) (any_below n (λ i. p (suc i)))
  where
    exchanged : (a b c : Bool) → pick a true (pick b true c) ≡ pick b true (pick a true c)
    exchanged true true c = refl
    exchanged true false c = refl
    exchanged false b c = refl

-- every element of a list is zero
pub zero_list : (xs : List ℕ) → list_all (λ x. eqb x 0) xs ≡ all_zero (length xs) (at xs)
unfolding all_zero any_below
zero_list [] = refl
zero_list (x ∷ xs) =
    both (eqb x 0) _ _ (zero_list xs) ∙ ap not (sym (any_first (length xs) (λ i. not (eqb (at (x ∷ xs) i) 0))))
  where
    both : (b t u : Bool) → t ≡ not u → (b && t) ≡ not (pick (not b) true u)
    both true t u e = e
    both false t u e = refl
