-- What `fill` and `copy_from_slice` leave of a list, as `put` and `tab` say it, and what `!=` tells of two fronts. Assumes nothing.
-- After a write to `s[a..e]` a goal shows s as `put_mid a (e - a) s new`; after one to `s[..e]` it is the same term at a = 0.
use Prim.Native.Nat.{ℕ, ◌+◌, ◌-◌, ◌<◌, ◌≤◌}
use mathlib.Core.Path.{◌≡◌, refl, sym, ap, ◌∙◌}
use mathlib.Core.Bool.{Bool, true, false, not}
use mathlib.Core.List.{List, ◌++◌}
use lib.Dec.{eqb}
use lib.Pointwise.{pointwise, bytes_decides}
use borrow.Author.Tests.{eq-eqb, eqb-true}
use Rattle.std.proofs.lemmas.Bool.{false≢true}
use Rattle.lists.proofs.AnyLaws.{any_none, any_below_lem}
use native.Mathlib.Omega.{arith}
use borrow.Rule.Slice.PartMut.{mid_of, post_of, put_mid}
use lib.ListN.{length, get_or, take, drop, replicate, length-append, length-drop, get_or-append}
use lib.Seq.{length-take-le, get_or-append-add, ext_get_or}
use Rattle.std.proofs.lemmas.List.{length-replicate, get_or-replicate, get_or-drop, get_or-take}
use Rattle.lists.specs.Lists.{at, tab, put, any_below}
use Rattle.lists.proofs.TabLaws.{length_tab, tab_at, is_tab}
use Rattle.lists.proofs.PutLaws.{is_put}

-- the k elements of a list from the a-th on, as `&s[a..e]` has them: how many, and each
pub length_part : (a k : ℕ) (s : List ℕ) → a + k ≤ length s → length (mid_of a k s) ≡ k
length_part a k s h = length-take-le k (drop a s) (omega (arith, length-drop a s))

pub part_at : (a k : ℕ) (s : List ℕ) (i : ℕ) → i < k → at (mid_of a k s) i ≡ at s (a + i)
part_at a k s i h = get_or-take k (drop a s) i 0 h ∙ get_or-drop a s i 0

-- other values in the n places from a on
module _ (n a : ℕ) (f : ℕ → ℕ) (s ys : List ℕ) {k : ℕ} (is : k ≡ n) (fits : a + n ≤ length s) where
  pub put_part : length ys ≡ n → ((i : ℕ) → i < n → at ys i ≡ f i) → put_mid a k s ys ≡ put n a f s
  put_part l h =
      let front : length (take a s) ≡ a = length-take-le a s (omega arith) in
      let rest : length (drop k (drop a s)) + (a + n) ≡ length s = omega (arith, length-drop k (drop a s), length-drop a s) in
      let joined : List ℕ = ys ++ post_of a k s in
      let high : (i : ℕ) → at (put_mid a k s ys) (a + i) ≡ at joined i =
      λ i. ap (λ (m : ℕ). at (put_mid a k s ys) (m + i)) (sym front) ∙ get_or-append-add (take a s) joined i 0 in
      is_put n a f s (put_mid a k s ys)
      (length-append (take a s) joined ∙ omega (arith, length-append ys (post_of a k s)))
      fits
      (λ i m. high i ∙ get_or-append ys (post_of a k s) 0 i (omega arith) ∙ h i m)
      (λ j m. get_or-append (take a s) joined 0 j (omega arith) ∙ get_or-take a s j 0 m)
      (λ j m.
      let q : j ≡ a + (n + (j - (a + n))) = omega arith in
      let r : a + (k + (j - (a + n))) ≡ j = omega arith in
      ap (at (put_mid a k s ys)) q ∙ high (n + (j - (a + n)))
      ∙ ap (λ (m : ℕ). at joined (m + (j - (a + n)))) (sym l) ∙ get_or-append-add ys (post_of a k s) (j - (a + n)) 0
      ∙ get_or-drop k (drop a s) (j - (a + n)) 0 ∙ get_or-drop a s (k + (j - (a + n))) 0 ∙ ap (at s) r)

-- `s[a..a + n].fill(v)`
pub put_filled : (n a v : ℕ) (s : List ℕ) {k : ℕ} {ys : List ℕ} → k ≡ n → a + n ≤ length s → ys ≡ replicate (length (mid_of a k s)) v
    → put_mid a k s ys ≡ put n a (λ i. v) s
put_filled n a v s {k} {ys} is fits e =
    let size : length (mid_of a k s) ≡ n = length_part a k s (omega arith) ∙ is in
    let ys-is : ys ≡ replicate n v = rw size at e in
    put_part n a (λ i. v) s ys is fits (rw ys-is (length-replicate n v)) (λ i h. rw ys-is (get_or-replicate n i v 0 h))

-- `s[a..a + n].copy_from_slice(&u[b..b + n])`
pub put_copied : (n a b : ℕ) (u s : List ℕ) {k m : ℕ} {ys : List ℕ} → k ≡ n → m ≡ n → a + n ≤ length s → b + n ≤ length u → ys ≡ mid_of b m u
    → put_mid a k s ys ≡ put n a (λ i. at u (b + i)) s
put_copied n a b u s {m = m} {ys} is same fits has e =
    put_part n a (λ i. at u (b + i)) s ys is fits (rw e (length_part b m u (omega arith) ∙ same)) (λ i h. rw e (part_at b m u i (omega arith)))

-- `s[a..a + n].copy_from_slice(u)`, where u has n elements
pub put_whole : (n a : ℕ) (u s : List ℕ) {k : ℕ} {ys : List ℕ} → k ≡ n → a + n ≤ length s → length u ≡ n → ys ≡ u → put_mid a k s ys ≡ put n a (at u) s
put_whole n a u s {ys = ys} is fits l e = put_part n a (at u) s ys is fits (ap length e ∙ l) (λ i h. ap (λ (t : List ℕ). at t i) e)

-- a call that writes f to the n elements of `s[a..a + n]`
pub put_written : (n a : ℕ) (f : ℕ → ℕ) (s : List ℕ) {k : ℕ} {ys : List ℕ} → k ≡ n → a + n ≤ length s → ys ≡ tab n f → put_mid a k s ys ≡ put n a f s
put_written n a f s {ys = ys} is fits e =
    put_part n a f s ys is fits (ap length e ∙ length_tab n f) (λ i h. ap (λ (t : List ℕ). at t i) e ∙ tab_at n f i h)

-- the same of the first n, where the call says it of all that it was lent
pub front_written : (n : ℕ) (f : ℕ → ℕ) (s : List ℕ) {k : ℕ} {ys : List ℕ} → k ≡ n → n ≤ length s → ys ≡ tab (length (take n s)) f → put_mid 0 k s ys ≡ put n 0 f s
front_written n f s is fits e = put_written n 0 f s is (omega (arith, fits)) (e ∙ ap (λ (m : ℕ). tab m f) (length-take-le n s fits))

-- `s.fill(v)` on the whole of s; n elements of u copied to the whole of s
pub tab_filled : (n v : ℕ) {ys : List ℕ} → ys ≡ replicate n v → ys ≡ tab n (λ i. v)
tab_filled n v {ys} e = is_tab n (λ i. v) ys (rw e (length-replicate n v)) (λ i h. rw e (get_or-replicate n i v 0 h))

pub tab_copied : (n b : ℕ) (u : List ℕ) {m : ℕ} {ys : List ℕ} → m ≡ n → b + n ≤ length u → ys ≡ mid_of b m u → ys ≡ tab n (λ i. at u (b + i))
tab_copied n b u {m} {ys} is has e =
    is_tab n (λ i. at u (b + i)) ys (rw e (length_part b m u (omega arith) ∙ is)) (λ i h. rw e (part_at b m u i (omega arith)))

-- some element differs among the first n, as `a[..n] != b[..n]` says it
module _ (n : ℕ) (a b : List ℕ) (la : n ≤ length a) (lb : n ≤ length b) where
  abbrev unlike : ℕ → Bool
  unlike i = not (eqb (at a i) (at b i))

  alike : (i : ℕ) → unlike i ≡ false → at a i ≡ at b i
  alike i e = go (eqb (at a i) (at b i)) refl e
    where
      go : (t : Bool) → t ≡ eqb (at a i) (at b i) → not t ≡ false → at a i ≡ at b i
      go true q r = eqb-true (at a i) (at b i) (sym q)
      go false q r = absurd (false≢true (sym r))

  same_fronts : any_below n unlike ≡ false → take n a ≡ take n b
  same_fronts none =
      ext_get_or 0 (take n a) (take n b) (length-take-le n a la ∙ sym (length-take-le n b lb))
      (λ (i : ℕ) h.
      let l : i < n = omega (arith, length-take-le n a la) in
      get_or-take n a i 0 l ∙ alike i (any_below_lem n unlike none i l) ∙ sym (get_or-take n b i 0 l))

  pub fronts_differ : not (pointwise eqb (take n a) (take n b)) ≡ any_below n unlike
  fronts_differ = go (pointwise eqb (take n a) (take n b)) (any_below n unlike) refl refl
    where
      go : (x y : Bool) → x ≡ pointwise eqb (take n a) (take n b) → y ≡ any_below n unlike → not x ≡ y
      go true y p q =
          let e : take n a ≡ take n b = (bytes_decides (take n a) (take n b)).0 (sym p) in
          sym
          (q ∙ any_none n unlike (λ i h.
          rw (eq-eqb (at a i) (at b i)
          (sym (get_or-take n a i 0 h) ∙ ap (λ (t : List ℕ). get_or t i 0) e ∙ get_or-take n b i 0 h))))
      go false true p q = refl
      go false false p q = absurd (false≢true (p ∙ (bytes_decides (take n a) (take n b)).1 (same_fronts (sym q))))
