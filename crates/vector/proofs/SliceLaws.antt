-- What a call on the part `&mut out[a..e]` leaves of the whole, and the products and combinations of parts. Assumes nothing.
use Prim.Native.Nat.{ℕ, ◌+◌, ◌-◌, ◌*◌, ◌<◌, ◌≤◌}
use mathlib.Core.Path.{◌≡◌, refl, ap, ◌∙◌}
use mathlib.Core.List.{List}
use native.Mathlib.Nat.{mul-le-mul_right}
use native.Mathlib.Omega.{arith}
use borrow.Rule.Slice.PartMut.{put_mid}
use lib.ListN.{length, take}
use lib.Seq.{length-take-le, get_or-take}
use Rattle.lists.specs.Lists.{at, put}
use Rattle.lists.proofs.PartLaws.{part, length_part, part_at}
use Rattle.lists.proofs.PutLaws.{length_put, put_front, put_same}
use Rattle.lists.proofs.SliceLaws.{put_part}
use Rattle.field.specs.Field.{plus, times}
use Rattle.vector.specs.Vectors.{product, mixed, added}
use Rattle.vector.proofs.VectorLaws.{product_same, product_keys, mixed_same, mixed_vectors}
use Rattle.vector.proofs.AddedLaws.{added_same}

-- ---- a part written

module _ (a e len : ℕ) (out : List ℕ) (long : a + len ≡ e) (fits : e ≤ length out) where
  -- stores in the part are stores in the whole
  pub put_in_part : (f : ℕ → ℕ) (x : List ℕ) → x ≡ put (length (part a e out)) 0 f (part a e out) → put_mid a (e - a) out x ≡ put len a f out
  put_in_part f x made =
      let size : length (part a e out) ≡ len = length_part a e out fits ∙ omega arith in
      put_part len a f out x (omega arith) (omega arith) (ap length made ∙ length_put (length (part a e out)) 0 f (part a e out) ∙ size)
      (λ i h. ap (λ (l : List ℕ). at l i) made ∙ put_front (length (part a e out)) f (part a e out) i (omega (arith, size)) (omega arith))

  -- a vector added to the part is added to the whole
  pub added_in_part : (v : ℕ → ℕ) (x : List ℕ) → x ≡ added (length (part a e out)) 0 v (part a e out) → put_mid a (e - a) out x ≡ added len a v out
  unfolding added
  added_in_part v x made =
      put_in_part _ x made
      ∙ put_same len a _ _ out (λ i h. ap (λ (y : ℕ). plus y (v i)) (ap (at (part a e out)) {x = 0 + i} {y = i} (omega arith) ∙ part_at a e out i (omega arith)))

-- the same where the callee says it of a part of len elements
pub added_in_row : (len from : ℕ) (v : ℕ → ℕ) (s : List ℕ) {x : List ℕ} → from + len ≤ length s
    → x ≡ added len 0 v (part from (from + len) s) → put_mid from (from + len - from) s x ≡ added len from v s
added_in_row len from v s {x} fits made =
    let size : length (part from (from + len) s) ≡ len = length_part from (from + len) s fits ∙ omega arith in
    added_in_part from (from + len) len s refl fits v x (rw size made)

-- ---- parts as vectors

-- the product of a part and a vector, of two parts
pub product_part : (a e : ℕ) (u : List ℕ) (v : ℕ → ℕ) (len : ℕ) → a + len ≤ e → product len (at (part a e u)) v ≡ product len (λ i. at u (a + i)) v
product_part a e u v len h = product_same len _ _ v (λ i l. part_at a e u i (omega arith))

-- `product_of` the first elements `&u[..len]` and a vector
pub product_in_front : (len : ℕ) (u : List ℕ) (v : ℕ → ℕ) {r : ℕ} → len ≤ length u
    → r ≡ product (length (take len u)) (at (take len u)) v → r ≡ product len (at u) v
product_in_front len u v l made =
    made ∙ ap (λ (n : ℕ). product n (at (take len u)) v) (length-take-le len u l) ∙ product_same len _ _ v (λ i h. get_or-take len u i 0 h)

-- `product_of` a part and a vector, and a vector and a part
pub product_in_part : (a e len : ℕ) (u : List ℕ) (v : ℕ → ℕ) {r : ℕ} → a + len ≡ e → e ≤ length u
    → r ≡ product (length (part a e u)) (at (part a e u)) v → r ≡ product len (λ i. at u (a + i)) v
product_in_part a e len u v h l made =
    let size : length (part a e u) ≡ len = length_part a e u l ∙ omega arith in
    made ∙ ap (λ (n : ℕ). product n (at (part a e u)) v) size ∙ product_part a e u v len (omega arith)

pub product_keys_in_part : (a e len : ℕ) (u : ℕ → ℕ) (v : List ℕ) {r : ℕ} → a + len ≡ e → e ≤ length v
    → r ≡ product (length (part a e v)) u (at (part a e v)) → r ≡ product len u (λ i. at v (a + i))
product_keys_in_part a e len u v h l made =
    let size : length (part a e v) ≡ len = length_part a e v l ∙ omega arith in
    made ∙ ap (λ (n : ℕ). product n u (at (part a e v))) size ∙ product_keys len u _ _ (λ i b. part_at a e v i (omega arith))

-- multiples and combinations of parts, added
pub added_part : (a e : ℕ) (u : List ℕ) (c len from : ℕ) (d : List ℕ) → a + len ≤ e
    → added len from (λ i. times c (at (part a e u) i)) d ≡ added len from (λ i. times c (at u (a + i))) d
added_part a e u c len from d h = added_same len from _ _ d (λ i l. ap (times c) (part_at a e u i (omega arith)))

-- a part holds vectors one after another: vector i is there and in the whole
pub mixed_part : (a e : ℕ) (u : List ℕ) (count len : ℕ) (c : ℕ → ℕ) (d : ℕ) → a + count * len ≤ e → d < len
    → mixed count c (λ i x. at (part a e u) (i * len + x)) d ≡ mixed count c (λ i x. at u (a + i * len + x)) d
mixed_part a e u count len c d h l =
    mixed_vectors count c _ _ d (λ i b.
    let in_part : i * len + d < e - a = omega (arith, mul-le-mul_right {m = i + 1} {n = count} len (omega arith)) in
    part_at a e u (i * len + d) in_part ∙ ap (at u) (omega arith))

-- coefficients by steps: in the part that begins with the first, and in the whole
pub coefficients_part : (first step count : ℕ) (c : List ℕ) → (0 < count → first + (count - 1) * step < length c)
    → (i : ℕ) → i < count → at (part first (length c) c) (i * step) ≡ at c (first + i * step)
coefficients_part first step count c h i l =
    part_at first (length c) c (i * step) (omega (arith, h (omega arith), mul-le-mul_right {m = i} {n = count - 1} step (omega arith)))

-- ---- calls on parts of the vectors and of what is added to

module _ (a e len : ℕ) (out : List ℕ) (long : a + len ≡ e) (fits : e ≤ length out) where
  -- `add_multiple` of a part to a part
  pub multiple_in_part : (b f : ℕ) (u : List ℕ) (c : ℕ) {x : List ℕ} → b + len ≤ f
      → x ≡ added (length (part a e out)) 0 (λ i. times c (at (part b f u) i)) (part a e out)
      → put_mid a (e - a) out x ≡ added len a (λ i. times c (at u (b + i))) out
  multiple_in_part b f u c h made = added_in_part a e len out long fits _ _ made ∙ added_part b f u c len a out h

  -- `combine` of the vectors in a part, to a part
  pub combined_in_part : (b f : ℕ) (u : List ℕ) (count : ℕ) (c c' : ℕ → ℕ) {x : List ℕ} → b + count * len ≤ f → ((i : ℕ) → i < count → c i ≡ c' i)
      → x ≡ added (length (part a e out)) 0 (mixed count c (λ i d. at (part b f u) (i * length (part a e out) + d))) (part a e out)
      → put_mid a (e - a) out x ≡ added len a (mixed count c' (λ i d. at u (b + i * len + d))) out
  combined_in_part b f u count c c' h same made =
      let size : length (part a e out) ≡ len = length_part a e out fits ∙ omega arith in
      added_in_part a e len out long fits _ _ made
      ∙ added_same len a _ _ out (λ d l.
      ap (λ (n : ℕ). mixed count c (λ i d. at (part b f u) (i * n + d)) d) size ∙ mixed_part b f u count len c d h l
      ∙ mixed_same count c c' (λ i d. at u (b + i * len + d)) d same)
