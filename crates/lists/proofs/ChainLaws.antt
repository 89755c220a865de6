-- What the chains and the parts of the library are in the words by index. Assumes nothing.
use Prim.Native.Nat.{ℕ, zero, suc, ◌+◌, ◌-◌, ◌<◌, ◌≤◌}
use mathlib.Core.Path.{◌≡◌, refl, sym, ap, ◌∙◌}
use mathlib.Core.Bool.{Bool, true, false, ◌||◌}
use mathlib.Core.List.{List, [], ◌∷◌}
use native.Mathlib.Omega.{arith}
use native.Mathlib.Nat.{add-zero}
use lib.ListN.{length, set, take, drop}
use Rattle.std.specs.List.{list_any, range_with_len}
use Rattle.std.specs.Slice.Iter.{windows_rest, windows_size, windows_steps}
use Rattle.std.proofs.lemmas.Iterator.{YieldsList}
use Rattle.std.proofs.lemmas.Iterator.Splits.{YieldsList-from_shown_while}
use Rattle.lists.specs.Lists.{pick, at, tab, put, any_below}
use Rattle.lists.proofs.PutLaws.{put_more, put_above, put_all, length_put}
use Rattle.lists.proofs.AnyLaws.{any_same}

-- the first index apart from those after it
any_first : (n : ℕ) (p : ℕ → Bool) → any_below (suc n) p ≡ pick (p 0) true (any_below n (λ i. p (suc i)))
unfolding any_below
any_first zero p = refl
any_first (suc n) p = rw (any_first n p) (swapped (p (suc n)) (p 0) _)
  where
    swapped : (a b : Bool) (c : Bool) → pick a true (pick b true c) ≡ pick b true (pick a true c)
    swapped true true c = refl
    swapped true false c = refl
    swapped false b c = refl

or_pick : (a b : Bool) → (a || b) ≡ pick a true b
or_pick true b = refl
or_pick false b = refl

-- whether an element passes
pub any_of_list : (p : ℕ → Bool) (xs : List ℕ) → list_any p xs ≡ any_below (length xs) (λ i. p (at xs i))
unfolding any_below
any_of_list p [] = refl
any_of_list p (x ∷ xs) = or_pick (p x) _ ∙ rw (any_of_list p xs) (sym (any_first (length xs) (λ i. p (at (x ∷ xs) i))))

-- whether a number of a range passes
pub any_of_range : (p : ℕ → Bool) (a n : ℕ) → list_any p (range_with_len a n) ≡ any_below n (λ i. p (a + i))
unfolding any_below
any_of_range p a zero = refl
any_of_range p a (suc n) =
    or_pick (p a) _
    ∙ rw (any_of_range p (a + 1) n, add-zero a) (ap (λ (b : Bool). pick (p a) true b) (any_same n _ _ (λ i l. ap p (omega arith))))
    ∙ sym (any_first n (λ i. p (a + i)))

pub any_to : (p : ℕ → Bool) (n : ℕ) → list_any p (range_with_len 0 n) ≡ any_below n p
any_to p n = any_of_range p 0 n ∙ any_same n _ _ (λ i l. ap p (omega arith))

-- each element with the one after it
abbrev pub pairs : List ℕ → List (List ℕ)
pairs [] = []
pairs (x ∷ []) = []
pairs (x ∷ y ∷ ys) = (x ∷ y ∷ []) ∷ pairs (y ∷ ys)

pairs_none : (xs : List ℕ) → length xs < 2 → length (pairs xs) ≡ 0
pairs_none [] h = refl
pairs_none (x ∷ []) h = refl
pairs_none (x ∷ y ∷ ys) h = absurd (omega arith)

pairs_some : (xs : List ℕ) → 2 ≤ length xs → pairs xs ≡ take 2 xs ∷ pairs (drop 1 xs)
pairs_some [] h = absurd (omega arith)
pairs_some (x ∷ []) h = absurd (omega arith)
pairs_some (x ∷ y ∷ ys) h = refl

-- they are what `windows(2)` gives
pub YieldsList-from_windows : {s : _} (xs : List ℕ) → windows_rest s ≡ xs → windows_size s ≡ 2 → YieldsList windows_steps (λ y. y.now) s (pairs xs)
YieldsList-from_windows {s} xs e two =
    rw (← e)
    (YieldsList-from_shown_while windows_steps (λ y. y.now) (λ t. pairs (windows_rest t)) (λ t. windows_size t ≡ 2)
    (λ t u p h. pairs_none (windows_rest t) (omega (arith, h.1.0)))
    (λ t x u p h.
    let some = h.1 in
    (h.0 ∙ p, pairs_some (windows_rest t) (omega (arith, some.0)) ∙ rw (some.1, some.2, p) refl))
    s two)

-- whether an element and the one after it pass
pub any_of_pairs : (q : ℕ → ℕ → Bool) (xs : List ℕ) → list_any (λ w. q (at w 0) (at w 1)) (pairs xs) ≡ any_below (length xs - 1) (λ j. q (at xs j) (at xs (j + 1)))
unfolding any_below
any_of_pairs q [] = refl
any_of_pairs q (x ∷ []) = refl
any_of_pairs q (x ∷ y ∷ ys) =
    let n : suc (suc (length ys)) - 1 ≡ suc (length ys) = omega arith in
    let m : suc (length ys) - 1 ≡ length ys = omega arith in
    let rest : list_any (λ w. q (at w 0) (at w 1)) (pairs (y ∷ ys)) ≡ any_below (length ys) (λ i. q (at (y ∷ ys) i) (at (x ∷ y ∷ ys) (suc i + 1))) =
    any_of_pairs q (y ∷ ys) ∙ ap (λ (k : ℕ). any_below k (λ j. q (at (y ∷ ys) j) (at (y ∷ ys) (j + 1)))) m
    ∙ any_same (length ys) _ _ (λ i l. ap (λ (k : ℕ). q (at (y ∷ ys) i) (at (x ∷ y ∷ ys) k)) {x = suc (i + 1)} {y = suc i + 1} (omega arith)) in
    or_pick (q x y) _ ∙ ap (λ (b : Bool). pick (q x y) true b) rest ∙ sym (any_first (length ys) (λ j. q (at (x ∷ y ∷ ys) j) (at (x ∷ y ∷ ys) (j + 1))))
    ∙ ap (λ (k : ℕ). any_below k (λ j. q (at (x ∷ y ∷ ys) j) (at (x ∷ y ∷ ys) (j + 1)))) (sym n)

-- a loop over the elements of a list that are written: one more, all
pub item_more : (f : ℕ → ℕ) (d : List ℕ) (i : ℕ) {s : List ℕ} {x : ℕ} → s ≡ put i 0 f d → x ≡ f i → set s i x ≡ put (i + 1) 0 f d
item_more f d i e h = put_more i 0 f d e (omega arith) h

pub item_as_before : (f : ℕ → ℕ) (d : List ℕ) (i : ℕ) {s : List ℕ} → s ≡ put i 0 f d → at s i ≡ at d i
item_as_before f d i e = ap (λ (s : List ℕ). at s i) e ∙ put_above i 0 f d i (omega arith)

pub items_all : (f : ℕ → ℕ) (d : List ℕ) (n i : ℕ) {s : List ℕ} → i ≡ n → length s ≡ n → s ≡ put i 0 f d → s ≡ tab n f
items_all f d n i {s} h l e =
    let p : s ≡ put n 0 f d = rw h at e in
    p ∙ put_all n f d (sym (length_put n 0 f d) ∙ sym (ap length p) ∙ l)
