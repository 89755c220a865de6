-- Rows as they are kept: how one is made in sixteen zeros, and its elements. Assumes nothing.
use Prim.Native.Nat.{ℕ, ◌+◌, ◌-◌, ◌<◌, ◌≤◌}
use mathlib.Core.Path.{◌≡◌, sym, ap, ◌∙◌}
use mathlib.Core.List.{List, ◌++◌}
use mathlib.Core.Logic.{⊎_elim}
use native.Mathlib.Omega.{arith}
use lib.Dec.{ltb}
use lib.ListN.{length, take, drop, length-append, length-drop, replicate, get_or-append, get_or-replicate}
use lib.Seq.{length-take-le, get_or-take, get_or-drop}
use borrow.Author.Tests.{lt-ltb, le-ltb}
use Rattle.lists.specs.Lists.{pick, at, put}
use Rattle.lists.proofs.TabLaws.{order, length_tab, tab_at, is_tab, tab_same, elements}
use Rattle.lists.proofs.PartLaws.{part, length_part, part_at}
use Rattle.lists.proofs.PutLaws.{length_put, put_front, put_above, skip}
use Rattle.linear.specs.declared.rows.Row.{Row}
use Rattle.linear.specs.PrivateRows.{kept}

-- m elements stored in sixteen zeros
pub row_stored : (m : ℕ) (v : ℕ → ℕ) {bytes : List ℕ} → m ≤ 16 → bytes ≡ put m 0 v (replicate 16 0) → record { bytes = bytes } ≡ kept m v
unfolding kept
row_stored m v {bytes} h e = ap (λ (b : List ℕ). record { bytes = b }) (e ∙ is_tab 16 _ (put m 0 v zeros) (length_put m 0 v zeros) each)
  where
    zeros : List ℕ
    zeros = replicate 16 0

    each : (i : ℕ) → i < 16 → at (put m 0 v zeros) i ≡ pick (ltb i m) (v i) 0
    each i l =
        ⊎_elim
        (λ (b : i < m). rw (lt-ltb i m b) (put_front m v zeros i b (omega arith)))
        (λ (b : m ≤ i). rw (le-ltb i m b) (put_above m 0 v zeros i (omega arith) ∙ get_or-replicate 16 i 0 0 l))
        (order i m)

-- the elements of a list copied to the front of sixteen zeros
pub row_copied : (elements : List ℕ) {x : List ℕ} → length elements ≤ 16 → x ≡ elements
    → record { bytes = x ++ drop (length elements) (replicate 16 0) } ≡ kept (length elements) (at elements)
unfolding kept
row_copied elements {x} h e = ap (λ (b : List ℕ). record { bytes = b }) (is_tab 16 _ all long each)
  where
    m : ℕ
    m = length elements

    zeros : List ℕ
    zeros = replicate 16 0

    all : List ℕ
    all = x ++ drop m zeros

    long : length all ≡ 16
    long = length-append x (drop m zeros) ∙ omega (arith, ap length e, length-drop m zeros)

    each : (i : ℕ) → i < 16 → at all i ≡ pick (ltb i m) (at elements i) 0
    each i l =
        ⊎_elim
        (λ (b : i < m). rw (lt-ltb i m b) (get_or-append x (drop m zeros) 0 i (omega (arith, ap length e)) ∙ ap (λ (z : List ℕ). at z i) e))
        (λ (b : m ≤ i).
        let q : i ≡ m + (i - m) = omega arith in
        rw (le-ltb i m b) (ap (at all) q ∙ skip x (drop m zeros) m (i - m) (ap length e) ∙ get_or-drop m zeros (i - m) 0 ∙ get_or-replicate 16 (m + (i - m)) 0 0 (omega arith)))
        (order i m)

-- equal elements
pub kept_same : (m : ℕ) (v w : ℕ → ℕ) → ((i : ℕ) → i < m → v i ≡ w i) → kept m v ≡ kept m w
unfolding kept
kept_same m v w h = ap (λ (b : List ℕ). record { bytes = b }) (tab_same 16 _ _ (λ i l.
    ⊎_elim (λ (b : i < m). rw (lt-ltb i m b) (h i b)) (λ (b : m ≤ i). rw (le-ltb i m b)) (order i m)))

-- the elements of a part
pub kept_part : (a e : ℕ) (u : List ℕ) (m : ℕ) → a + m ≡ e → e ≤ length u → kept (length (part a e u)) (at (part a e u)) ≡ kept m (λ i. at u (a + i))
kept_part a e u m h l =
    let long : length (part a e u) ≡ m = length_part a e u l ∙ omega arith in
    ap (λ (n : ℕ). kept n (at (part a e u))) long ∙ kept_same m _ _ (λ i b. part_at a e u i (omega arith))

-- element i of the row
pub kept_at : (m : ℕ) (v : ℕ → ℕ) {row : Row} → m ≤ 16 → row ≡ kept m v → (i : ℕ) → i < m → at row.bytes i ≡ v i
unfolding kept
kept_at m v h e i l = ap (λ (r : Row). at r.bytes i) e ∙ tab_at 16 _ i (omega arith) ∙ rw (lt-ltb i m l)

-- the elements are the row's first
pub kept_front : (xs : List ℕ) (m : ℕ) {row : Row} → length xs ≡ m → m ≤ 16 → row ≡ kept (length xs) (at xs) → take m row.bytes ≡ xs
unfolding kept
kept_front xs m {row} long low e =
    let size : length row.bytes ≡ 16 = ap (λ (r : Row). length r.bytes) e ∙ length_tab 16 _ in
    sym (elements m (take m row.bytes) (length-take-le m row.bytes (omega (arith, size))))
    ∙ tab_same m _ (at xs) (λ i h. get_or-take m row.bytes i 0 h ∙ kept_at (length xs) (at xs) (omega (arith, long)) e i (omega (arith, long)))
    ∙ elements m xs long
