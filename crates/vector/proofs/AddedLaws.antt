-- Vectors added to part of a list: the steps of the loop that adds one, and of the loops that add a combination. Assumes nothing.
use Prim.Native.Nat.{ℕ, zero, suc, ◌+◌, ◌*◌, ◌<◌, ◌≤◌}
use mathlib.Core.Path.{◌≡◌, refl, sym, ap, ◌∙◌}
use mathlib.Core.List.{List}
use native.Mathlib.Nat.{mul-le-mul_right}
use native.Mathlib.Omega.{arith}
use lib.Bits.{bit_xor, xor_zero_l, xor_zero_r}
use lib.ListN.{length, set, replicate, get_or-replicate}
use lib.Seq.{set-get_or}
use Rattle.lists.specs.Lists.{at, put, grid}
use Rattle.lists.proofs.PutLaws.{length_put, put_below, put_above, put_at, put_more, put_same, put_again, length_grid, grid_more}
use Rattle.field.specs.Field.{plus, times}
use Rattle.field.proofs.SumLaws.{sum_none, sum_more}
use Rattle.field.proofs.XorLaws.{xor_assoc}
use Rattle.vector.specs.Vectors.{mixed, added}

-- ---- one vector

-- e elements have been added to: one more
pub added_step : (e from : ℕ) (v : ℕ → ℕ) (d : List ℕ) {s : List ℕ} {x : ℕ} → s ≡ added e from v d → x ≡ v e
    → set s (from + e) (plus (at s (from + e)) x) ≡ added (e + 1) from v d
unfolding added
added_step e from v d {s} {x} p q =
    let r : at s (from + e) ≡ at d (from + e) = ap (λ (l : List ℕ). at l (from + e)) p ∙ put_above e from _ d (from + e) (omega arith) in
    put_more e from _ d p refl (rw (r, q))

pub added_front : (e : ℕ) (v : ℕ → ℕ) (d : List ℕ) {s : List ℕ} {x : ℕ} → s ≡ added e 0 v d → x ≡ v e → set s e (plus (at s e) x) ≡ added (e + 1) 0 v d
added_front e v d {s} {x} p q = let z : 0 + e ≡ e = omega arith in rw z at (added_step e 0 v d p q)

pub added_none : (from : ℕ) (v : ℕ → ℕ) (d : List ℕ) → d ≡ added 0 from v d
unfolding added put
added_none from v d = refl

pub length_added : (len from : ℕ) (v : ℕ → ℕ) (d : List ℕ) → length (added len from v d) ≡ length d
unfolding added
length_added len from v d = length_put len from _ d

pub added_at : (len from : ℕ) (v : ℕ → ℕ) (d : List ℕ) (e : ℕ) → e < len → from + len ≤ length d → at (added len from v d) (from + e) ≡ plus (at d (from + e)) (v e)
unfolding added
added_at len from v d e h l = put_at len from _ d e h l

pub added_front_at : (len : ℕ) (v : ℕ → ℕ) (d : List ℕ) (e : ℕ) → e < len → len ≤ length d → at (added len 0 v d) e ≡ plus (at d e) (v e)
added_front_at len v d e h l = let z : 0 + e ≡ e = omega arith in rw z at (added_at len 0 v d e h (omega arith))

pub added_below : (len from : ℕ) (v : ℕ → ℕ) (d : List ℕ) (k : ℕ) → k < from → at (added len from v d) k ≡ at d k
unfolding added
added_below len from v d k h = put_below len from _ d k h

pub added_above : (len from : ℕ) (v : ℕ → ℕ) (d : List ℕ) (k : ℕ) → from + len ≤ k → at (added len from v d) k ≡ at d k
unfolding added
added_above len from v d k h = put_above len from _ d k h

pub added_same : (len from : ℕ) (u v : ℕ → ℕ) (d : List ℕ) → ((e : ℕ) → e < len → u e ≡ v e) → added len from u d ≡ added len from v d
unfolding added
added_same len from u v d h = put_same len from _ _ d (λ e l. ap (plus (at d (from + e))) (h e l))

-- the zero vector
pub added_zero : (len from : ℕ) (v : ℕ → ℕ) (d : List ℕ) → ((e : ℕ) → e < len → v e ≡ 0) → d ≡ added len from v d
unfolding added put
added_zero len from v d h = sym (put_same len from _ (λ e. at d (from + e)) d (λ e l. ap (bit_xor (at d (from + e))) (h e l) ∙ xor_zero_r (at d (from + e))) ∙ kept len)
  where
    kept : (n : ℕ) → put n from (λ e. at d (from + e)) d ≡ d
    kept zero = refl
    kept (suc n) = rw (kept n) (set-get_or d (from + n) 0)

-- one vector after another
pub added_twice : (len from : ℕ) (u v : ℕ → ℕ) (d : List ℕ) → from + len ≤ length d → added len from v (added len from u d) ≡ added len from (λ e. plus (u e) (v e)) d
unfolding added
added_twice len from u v d fits =
    put_same len from _ (λ e. plus (at d (from + e)) (plus (u e) (v e))) (added len from u d)
    (λ e l. ap (λ (x : ℕ). plus x (v e)) (put_at len from _ d e l fits) ∙ xor_assoc (at d (from + e)) (u e) (v e))
    ∙ put_again len from _ _ d fits

-- to zeros
pub added_cleared : (len from : ℕ) (v : ℕ → ℕ) (d : List ℕ) → from + len ≤ length d → added len from v (put len from (λ e. 0) d) ≡ put len from v d
unfolding added
added_cleared len from v d fits =
    put_same len from _ v _ (λ e l. ap (λ (x : ℕ). plus x (v e)) (put_at len from (λ e. 0) d e l fits) ∙ xor_zero_l (v e)) ∙ put_again len from v _ d fits

pub added_zeros : (len size : ℕ) (v : ℕ → ℕ) → len ≤ size → added len 0 v (replicate size 0) ≡ put len 0 v (replicate size 0)
unfolding added
added_zeros len size v fits =
    put_same len 0 _ v _ (λ e l. ap (λ (x : ℕ). plus x (v e)) (get_or-replicate size (0 + e) 0 0 (omega arith)) ∙ xor_zero_l (v e))

-- n rows are made: one more, of zeros, and a vector added to it
pub row_made : (n m from : ℕ) (f : ℕ → ℕ → ℕ) (v : ℕ → ℕ) (d : List ℕ) {s z w : List ℕ} {place : ℕ} → from + (n + 1) * m ≤ length d → s ≡ grid n m from f d
    → place ≡ from + n * m → z ≡ put m place (λ e. 0) s → w ≡ added m place v z → ((e : ℕ) → e < m → v e ≡ f n e) → w ≡ grid (n + 1) m from f d
row_made n m from f v d {s} {place = place} fits made starts cleared combined same =
    let long : place + m ≤ length s = omega (arith, ap length made, length_grid n m from f d) in
    combined ∙ ap (added m place v) cleared ∙ added_cleared m place v s long ∙ put_same m place v (f n) s same ∙ grid_more n m from f d made starts

-- ---- a combination, vector by vector

module _ (len from : ℕ) (c : ℕ → ℕ) (v : ℕ → ℕ → ℕ) (d : List ℕ) where
  pub mixed_none : d ≡ added len from (mixed 0 c v) d
  unfolding mixed
  mixed_none = added_zero len from (mixed 0 c v) d (λ e h. sym (sum_none _))

  -- the first i vectors have been added: one more
  pub mixed_more : (i : ℕ) (w : ℕ → ℕ) {s t : List ℕ} → from + len ≤ length d → s ≡ added len from (mixed i c v) d → t ≡ added len from w s
      → ((e : ℕ) → e < len → w e ≡ times (c i) (v i e)) → t ≡ added len from (mixed (i + 1) c v) d
  unfolding mixed
  mixed_more i w fits p q h =
      q ∙ ap (added len from w) p ∙ added_twice len from (mixed i c v) w d fits
      ∙ added_same len from _ (mixed (i + 1) c v) d (λ e l. sum_more i (λ j. times (c j) (v j e)) refl (h e l))

-- ---- where a combination's vectors stand

-- vector i, one after another
pub vector_in : (start len count i : ℕ) {n : ℕ} → i < count → start + count * len ≤ n → start + i * len + len ≤ n
vector_in start len count i h f = omega (arith, mul-le-mul_right {m = i + 1} {n = count} len (omega arith))
