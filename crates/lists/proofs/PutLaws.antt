-- Laws of stores in a row (`put`), rows of stores (`grid`) and rows of values (`flat`). Assumes nothing.
use Prim.Native.Nat.{ℕ, zero, suc, ◌+◌, ◌-◌, ◌*◌, ◌/◌, ◌%◌, ◌<◌, ◌≤◌}
use mathlib.Core.Path.{◌≡◌, refl, sym, ap, subst, ◌∙◌}
use mathlib.Core.List.{List, ◌++◌}
use mathlib.Core.Logic.{⊎_elim}
use native.Mathlib.Omega.{arith}
use native.Mathlib.Nat.{eq-or-lt_of_le, mul-le-mul_right, add-zero, add-suc, div-add-mod', div-lt_iff_lt-mul, mod-lt}
use native.Mathlib.Numerals.{add-one}
use lib.ListN.{length, set, length-set, length-append, get_or-append}
use lib.Seq.{get_or-set_same, get_or-set_other, get_or-append-add, ext_get_or}
use Rattle.lists.specs.Lists.{at, tab, flat, put, grid}
use Rattle.lists.proofs.TabLaws.{order, length_tab, tab_at, is_tab, tab_same}

pub length_put : (n from : ℕ) (f : ℕ → ℕ) (d : List ℕ) → length (put n from f d) ≡ length d
unfolding put
length_put zero from f d = refl
length_put (suc n) from f d = length-set (put n from f d) (from + n) (f n) ∙ length_put n from f d

pub put_below : (n from : ℕ) (f : ℕ → ℕ) (d : List ℕ) (k : ℕ) → k < from → at (put n from f d) k ≡ at d k
unfolding put
put_below zero from f d k h = refl
put_below (suc n) from f d k h =
    get_or-set_other (put n from f d) (from + n) k (f n) 0 (λ e. omega arith) ∙ put_below n from f d k h

pub put_above : (n from : ℕ) (f : ℕ → ℕ) (d : List ℕ) (k : ℕ) → from + n ≤ k → at (put n from f d) k ≡ at d k
unfolding put
put_above zero from f d k h = refl
put_above (suc n) from f d k h =
    get_or-set_other (put n from f d) (from + n) k (f n) 0 (λ e. omega arith) ∙ put_above n from f d k (omega arith)

pub put_at : (n from : ℕ) (f : ℕ → ℕ) (d : List ℕ) (j : ℕ) → j < n → from + n ≤ length d → at (put n from f d) (from + j) ≡ f j
unfolding put
put_at zero from f d j h r = absurd (omega arith)
put_at (suc n) from f d j h r =
    ⊎_elim
    (λ (e : j ≡ n). rw e (get_or-set_same (put n from f d) (from + n) (f n) 0 (omega (arith, length_put n from f d))))
    (λ (l : j < n). get_or-set_other (put n from f d) (from + n) (from + j) (f n) 0 (λ e. omega arith) ∙ put_at n from f d j l (omega arith))
    (eq-or-lt_of_le {n = j} {m = n} (omega arith))

-- no store; one more; as many again behind them
pub put_none : (from : ℕ) (f : ℕ → ℕ) (d : List ℕ) → d ≡ put 0 from f d
unfolding put
put_none from f d = refl

pub put_more : (n from : ℕ) (f : ℕ → ℕ) (d : List ℕ) {s : List ℕ} {k v : ℕ} → s ≡ put n from f d → k ≡ from + n → v ≡ f n → set s k v ≡ put (n + 1) from f d
unfolding put
put_more n from f d e h g = rw (add-one, e, h, g)

pub put_put : (n m from : ℕ) (f : ℕ → ℕ) (d : List ℕ) → put m (from + n) (λ i. f (n + i)) (put n from f d) ≡ put (n + m) from f d
unfolding put
put_put n zero from f d = rw (add-zero n)
put_put n (suc m) from f d =
    let q : from + n + m ≡ from + (n + m) = omega arith in
    rw (add-suc n m, put_put n m from f d, q)

-- equal values
pub put_same : (n from : ℕ) (f g : ℕ → ℕ) (d : List ℕ) → ((i : ℕ) → i < n → f i ≡ g i) → put n from f d ≡ put n from g d
unfolding put
put_same zero from f g d h = refl
put_same (suc n) from f g d h = rw (put_same n from f g d (λ i l. h i (omega arith)), h n (omega arith))

-- a list with these values in those places, and elsewhere as it was
pub is_put : (n from : ℕ) (f : ℕ → ℕ) (d s : List ℕ) → length s ≡ length d → from + n ≤ length d → ((i : ℕ) → i < n → at s (from + i) ≡ f i)
    → ((k : ℕ) → k < from → at s k ≡ at d k) → ((k : ℕ) → from + n ≤ k → at s k ≡ at d k) → s ≡ put n from f d
is_put n from f d s e l within below above =
    ext_get_or 0 s (put n from f d) (e ∙ sym (length_put n from f d)) (λ (k : ℕ) h.
    ⊎_elim
    (λ (a : k < from). below k a ∙ sym (put_below n from f d k a))
    (λ (a : from ≤ k).
    ⊎_elim
    (λ (b : k < from + n).
    let q : k ≡ from + (k - from) = omega arith in
    rw q (within (k - from) (omega arith) ∙ sym (put_at n from f d (k - from) (omega arith) l)))
    (λ (b : from + n ≤ k). above k b ∙ sym (put_above n from f d k b))
    (order k (from + n)))
    (order k from))

-- other values in the same places
pub put_again : (n from : ℕ) (f g : ℕ → ℕ) (d : List ℕ) → from + n ≤ length d → put n from f (put n from g d) ≡ put n from f d
put_again n from f g d l =
    is_put n from f d _ (length_put n from f (put n from g d) ∙ length_put n from g d) l (λ i h. put_at n from f (put n from g d) i h (rw length_put l))
    (λ k h. put_below n from f (put n from g d) k h ∙ put_below n from g d k h) (λ k h. put_above n from f (put n from g d) k h ∙ put_above n from g d k h)

-- k blocks of n stores are made: one block more
pub put_block : (n k from : ℕ) (f g : ℕ → ℕ) (d : List ℕ) {s t : List ℕ} {place : ℕ} → s ≡ put (n * k) from f d → place ≡ from + n * k
    → t ≡ put n place g s → ((i : ℕ) → i < n → g i ≡ f (n * k + i)) → t ≡ put (n * (k + 1)) from f d
put_block n k from f g d e h w v =
    let q : n * (k + 1) ≡ n * k + n = omega arith in
    w ∙ rw (e, h, q) (put_same n (from + n * k) g (λ i. f (n * k + i)) (put (n * k) from f d) v ∙ put_put (n * k) n from f d)

-- stores at the front, and in a whole list
pub put_front : (n : ℕ) (f : ℕ → ℕ) (d : List ℕ) (i : ℕ) → i < n → n ≤ length d → at (put n 0 f d) i ≡ f i
put_front n f d i h l = let q : i ≡ 0 + i = omega arith in ap (at (put n 0 f d)) q ∙ put_at n 0 f d i h (omega arith)

pub put_all : (n : ℕ) (f : ℕ → ℕ) (d : List ℕ) → length d ≡ n → put n 0 f d ≡ tab n f
put_all n f d e = is_tab n f (put n 0 f d) (length_put n 0 f d ∙ e) (λ i h. put_front n f d i h (omega arith))

pub length_grid : (n m from : ℕ) (f : ℕ → ℕ → ℕ) (d : List ℕ) → length (grid n m from f d) ≡ length d
unfolding grid
length_grid zero m from f d = refl
length_grid (suc n) m from f d = length_put m (from + n * m) (f n) (grid n m from f d) ∙ length_grid n m from f d

pub grid_below : (n m from : ℕ) (f : ℕ → ℕ → ℕ) (d : List ℕ) (k : ℕ) → k < from → at (grid n m from f d) k ≡ at d k
unfolding grid
grid_below zero m from f d k h = refl
grid_below (suc n) m from f d k h =
    put_below m (from + n * m) (f n) (grid n m from f d) k (omega arith) ∙ grid_below n m from f d k h

pub grid_above : (n m from : ℕ) (f : ℕ → ℕ → ℕ) (d : List ℕ) (k : ℕ) → from + n * m ≤ k → at (grid n m from f d) k ≡ at d k
unfolding grid
grid_above zero m from f d k h = refl
grid_above (suc n) m from f d k h =
    put_above m (from + n * m) (f n) (grid n m from f d) k (omega arith) ∙ grid_above n m from f d k (omega arith)

pub grid_at : (n m from : ℕ) (f : ℕ → ℕ → ℕ) (d : List ℕ) (t j : ℕ) → t < n → j < m → from + n * m ≤ length d
    → at (grid n m from f d) (from + t * m + j) ≡ f t j
unfolding grid
grid_at zero m from f d t j h hj r = absurd (omega arith)
grid_at (suc n) m from f d t j h hj r =
    ⊎_elim
    (λ (e : t ≡ n). rw e (put_at m (from + n * m) (f n) (grid n m from f d) j hj (omega (arith, length_grid n m from f d))))
    (λ (l : t < n).
    put_below m (from + n * m) (f n) (grid n m from f d) (from + t * m + j) (omega (arith, mul-le-mul_right m l))
    ∙ grid_at n m from f d t j l hj (omega arith))
    (eq-or-lt_of_le {n = t} {m = n} (omega arith))

-- no row; one more
pub grid_none : (m from : ℕ) (f : ℕ → ℕ → ℕ) (d : List ℕ) → d ≡ grid 0 m from f d
unfolding grid
grid_none m from f d = refl

pub grid_more : (n m from : ℕ) (f : ℕ → ℕ → ℕ) (d : List ℕ) {s : List ℕ} {place : ℕ} → s ≡ grid n m from f d → place ≡ from + n * m
    → put m place (f n) s ≡ grid (n + 1) m from f d
unfolding grid
grid_more n m from f d e h = rw (add-one, e, h)

-- equal values
pub grid_same : (n m from : ℕ) (f g : ℕ → ℕ → ℕ) (d : List ℕ) → ((t j : ℕ) → t < n → j < m → f t j ≡ g t j) → grid n m from f d ≡ grid n m from g d
unfolding grid
grid_same zero m from f g d h = refl
grid_same (suc n) m from f g d h =
    rw (grid_same n m from f g d (λ t j l hj. h t j (omega arith) hj)) (put_same m (from + n * m) (f n) (g n) _ (λ j hj. h n j (omega arith) hj))

-- rows of stores are stores in a row
pub grid_put : (n m from : ℕ) (g : ℕ → ℕ) (d : List ℕ) → grid n m from (λ t j. g (t * m + j)) d ≡ put (n * m) from g d
unfolding grid put
grid_put zero m from g d = let q : 0 * m ≡ 0 = omega arith in rw q
grid_put (suc n) m from g d =
    let q : suc n * m ≡ n * m + m = omega arith in
    rw (q, grid_put n m from g d) (put_put (n * m) m from g d)

-- past the first list
pub skip : (a b : List ℕ) (n i : ℕ) → length a ≡ n → at (a ++ b) (n + i) ≡ at b i
skip a b n i e = rw (← e) (get_or-append-add a b i 0)

pub length_flat : (n m : ℕ) (f : ℕ → ℕ → ℕ) → length (flat n m f) ≡ n * m
unfolding flat
length_flat zero m f = omega arith
length_flat (suc n) m f = rw (length-append, length_flat n m f, length_tab) (omega arith)

pub flat_at : (n m : ℕ) (f : ℕ → ℕ → ℕ) (k p : ℕ) → k < n → p < m → at (flat n m f) (k * m + p) ≡ f k p
unfolding flat
flat_at zero m f k p h hp = absurd (omega arith)
flat_at (suc n) m f k p h hp =
    ⊎_elim
    (λ (e : k ≡ n). rw e (skip (flat n m f) (tab m (f n)) (n * m) p (length_flat n m f) ∙ tab_at m (f n) p hp))
    (λ (l : k < n).
    get_or-append (flat n m f) (tab m (f n)) 0 (k * m + p) (rw length_flat (omega (arith, mul-le-mul_right m l)))
    ∙ flat_at n m f k p l hp)
    (eq-or-lt_of_le {n = k} {m = n} (omega arith))

-- every element has what each value has
pub flat_every : (P : ℕ → Type 0) (n m : ℕ) (f : ℕ → ℕ → ℕ) → 0 < m → ((k p : ℕ) → P (f k p)) → (i : ℕ) → i < n * m → P (at (flat n m f) i)
flat_every P n m f pos h i l =
    subst (λ (x : ℕ). P (at (flat n m f) x)) (div-add-mod' i m)
    (subst P (sym (flat_at n m f (i / m) (i % m) ((div-lt_iff_lt-mul {k = m} pos).1 l) (mod-lt i pos))) (h (i / m) (i % m)))

pub flat_same : (n m : ℕ) (f g : ℕ → ℕ → ℕ) → ((k p : ℕ) → k < n → p < m → f k p ≡ g k p) → flat n m f ≡ flat n m g
unfolding flat
flat_same zero m f g h = refl
flat_same (suc n) m f g h =
    rw (flat_same n m f g (λ k p l hp. h k p (omega arith) hp), tab_same m (f n) (g n) (λ p hp. h n p (omega arith) hp))

-- rows with an element in them are not empty
pub row_some : (n m i : ℕ) → i < n * m → 0 < m
row_some n zero i l = absurd (omega arith)
row_some n (suc m) i l = omega arith

-- a list with these values, row by row
pub is_flat : (n m : ℕ) (f : ℕ → ℕ → ℕ) (d : List ℕ) → length d ≡ n * m → ((k p : ℕ) → k < n → p < m → at d (k * m + p) ≡ f k p) → d ≡ flat n m f
is_flat n m f d e h =
    ext_get_or 0 _ _ (e ∙ sym (length_flat n m f)) (λ (i : ℕ) b.
    let l : i < n * m = omega arith in
    let low : 0 < m = row_some n m i l in
    let r : i / m < n = (div-lt_iff_lt-mul {k = m} low).1 l in
    let q : i ≡ i / m * m + i % m = sym (div-add-mod' i m) in
    ap (at d) q ∙ h (i / m) (i % m) r (mod-lt i low) ∙ sym (ap (at (flat n m f)) q ∙ flat_at n m f (i / m) (i % m) r (mod-lt i low)))

-- rows of stores in a whole list
pub grid_all : (n m : ℕ) (f : ℕ → ℕ → ℕ) (d : List ℕ) → length d ≡ n * m → grid n m 0 f d ≡ flat n m f
grid_all n m f d e =
    is_flat n m f (grid n m 0 f d) (length_grid n m 0 f d ∙ e) (λ k p l hp.
    ap (at (grid n m 0 f d)) {x = k * m + p} {y = 0 + k * m + p} (omega arith) ∙ grid_at n m 0 f d k p l hp (omega arith))
