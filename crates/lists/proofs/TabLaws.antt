-- Laws of `tab`: its length, its elements, and the steps of a loop that fills a list from the front.
-- Assumes nothing.
use Prim.Native.Nat.{ℕ, zero, suc, ◌+◌, ◌<◌, ◌≤◌}
use mathlib.Core.Path.{◌≡◌, refl, sym, ◌∙◌}
use mathlib.Core.List.{List, [], ◌∷◌}
use mathlib.Core.Logic.{◌⊎◌, inl, inr, ⊎_elim}
use native.Mathlib.Decide.{dec_lt}
use native.Mathlib.Nat.{eq-or-lt_of_le, le_of_suc-le-suc}
use native.Mathlib.Numerals.{add-one}
use native.Mathlib.Omega.{arith}
use lib.ListN.{length, take, set, length-append, get_or-append}
use lib.Seq.{get_or_at, ext_get_or, take_all, take-suc-set}
use Rattle.lists.specs.Lists.{at, tab}

pub order : (a b : ℕ) → (a < b) ⊎ (b ≤ a)
order a b = elim (dec_lt a b) [ yes h ↦ inl h | no h ↦ inr (omega arith) ]

pub length_tab : (n : ℕ) (f : ℕ → ℕ) → length (tab n f) ≡ n
unfolding tab
length_tab zero f = refl
length_tab (suc n) f = simp (length-append, length_tab n f) (omega arith)

pub tab_at : (n : ℕ) (f : ℕ → ℕ) (i : ℕ) → i < n → at (tab n f) i ≡ f i
unfolding tab
tab_at zero f i h = absurd (omega arith)
tab_at (suc n) f i h =
    ⊎_elim
    (λ (e : i ≡ n). rw e (get_or_at (tab n f) (f n) [] 0 n (length_tab n f)))
    (λ (p : i < n). get_or-append (tab n f) (f n ∷ []) 0 i (omega (arith, length_tab n f)) ∙ tab_at n f i p)
    (eq-or-lt_of_le (le_of_suc-le-suc h))

-- a list with these elements
pub is_tab : (n : ℕ) (f : ℕ → ℕ) (s : List ℕ) → length s ≡ n → ((i : ℕ) → i < n → at s i ≡ f i) → s ≡ tab n f
is_tab n f s l h =
    ext_get_or 0 s (tab n f) (l ∙ sym (length_tab n f))
    (λ (i : ℕ) (g : i < length s). let k : i < n = omega arith in h i k ∙ sym (tab_at n f i k))

-- a list is made of its elements
pub elements : (n : ℕ) (s : List ℕ) → length s ≡ n → tab n (at s) ≡ s
elements n s e = sym (is_tab n (at s) s e (λ i h. refl))

pub tab_same : (n : ℕ) (f g : ℕ → ℕ) → ((i : ℕ) → i < n → f i ≡ g i) → tab n f ≡ tab n g
tab_same n f g e = is_tab n g (tab n f) (length_tab n f) (λ i h. tab_at n f i h ∙ e i h)

-- the first i elements are stored: none, one more, all
pub tab_none : (f : ℕ → ℕ) (s : List ℕ) → take 0 s ≡ tab 0 f
unfolding tab
tab_none f s = refl

pub tab_more : (f : ℕ → ℕ) (i : ℕ) (s : List ℕ) {x : ℕ} → i < length s → take i s ≡ tab i f → x ≡ f i → take (i + 1) (set s i x) ≡ tab (i + 1) f
unfolding tab
tab_more f i s {x} h e p = rw add-one (take-suc-set s i x h ∙ cc)

pub tab_all : (f : ℕ → ℕ) (n i : ℕ) (s : List ℕ) → i ≡ n → length s ≡ n → take i s ≡ tab i f → s ≡ tab n f
tab_all f n i s h l e =
    let g : take n s ≡ tab n f = rw h at e in
    sym (take_all n s (omega arith)) ∙ g
