-- A part of zeros with a combination added to it: the combination. Rows written one after another. Assumes nothing.
use Prim.Native.Nat.{ℕ, ◌+◌, ◌-◌, ◌*◌, ◌<◌, ◌≤◌}
use mathlib.Core.Path.{◌≡◌, sym, ap, ◌∙◌}
use mathlib.Core.List.{List, ◌++◌}
use mathlib.Core.Logic.{⊎_elim}
use native.Mathlib.Omega.{arith}
use borrow.Rule.Slice.PartMut.{put_mid}
use lib.ListN.{length, replicate, length-append, get_or-append}
use Rattle.std.proofs.lemmas.List.{length-replicate}
use Rattle.lists.specs.Lists.{at, tab, grid}
use Rattle.lists.proofs.TabLaws.{order, length_tab, tab_at, is_tab}
use Rattle.lists.proofs.PutLaws.{put_same, put_all, length_grid, grid_more, skip}
use Rattle.lists.proofs.PartLaws.{part, length_part}
use Rattle.lists.proofs.SliceLaws.{put_written}
use Rattle.vector.specs.Vectors.{mixed, added}
use Rattle.vector.proofs.AddedLaws.{added_zeros}

-- the length of a part
pub part_long : (first len end : ℕ) (s : List ℕ) → first + len ≡ end → end ≤ length s → length (part first end s) ≡ len
part_long first len end s e h = length_part first end s h ∙ omega arith

-- `out.fill(0)` and `combine(.., out)`: u holds the vectors one after another
pub combined_alone : (len count : ℕ) (c : ℕ → ℕ) (u d : List ℕ) {z w : List ℕ} → length d ≡ len → z ≡ replicate (length d) 0
    → w ≡ added (length z) 0 (mixed count c (λ i e. at u (i * length z + e))) z → w ≡ tab len (mixed count c (λ i e. at u (i * len + e)))
combined_alone len count c u d {z} {w} long zeros made =
    let zeros-is : z ≡ replicate len 0 = rw long at zeros in
    let size : length z ≡ len = ap length zeros-is ∙ length-replicate len 0 in
    let v : ℕ → ℕ = mixed count c (λ i e. at u (i * len + e)) in
    let sum : w ≡ added len 0 v z = rw size at made in
    sum ∙ ap (added len 0 v) zeros-is ∙ added_zeros len len v (omega arith) ∙ put_all len v (replicate len 0) (length-replicate len 0)

-- two lists of values, one behind the other
pub joined : (n m : ℕ) (f g h : ℕ → ℕ) → ((i : ℕ) → i < n → f i ≡ h i) → ((i : ℕ) → i < m → g i ≡ h (n + i)) → tab n f ++ tab m g ≡ tab (n + m) h
joined n m f g h front back =
    is_tab (n + m) h (tab n f ++ tab m g) (length-append (tab n f) (tab m g) ∙ omega (arith, length_tab n f, length_tab m g))
    (λ i l.
    ⊎_elim
    (λ (k : i < n). get_or-append (tab n f) (tab m g) 0 i (omega (arith, length_tab n f)) ∙ tab_at n f i k ∙ front i k)
    (λ (k : n ≤ i).
    let q : n + (i - n) ≡ i = omega arith in
    ap (at (tab n f ++ tab m g)) (sym q) ∙ skip (tab n f) (tab m g) n (i - n) (length_tab n f) ∙ tab_at m g (i - n) (omega arith)
    ∙ back (i - n) (omega arith) ∙ ap h q)
    (order i n))

-- n rows are made: one more, written whole to its part
pub row_written : (n m from : ℕ) (f : ℕ → ℕ → ℕ) (v : ℕ → ℕ) (d : List ℕ) {s w : List ℕ} {place k : ℕ} → from + (n + 1) * m ≤ length d → s ≡ grid n m from f d
    → place ≡ from + n * m → k ≡ m → w ≡ tab m v → ((e : ℕ) → e < m → v e ≡ f n e) → put_mid place k s w ≡ grid (n + 1) m from f d
row_written n m from f v d {s} {place = place} fits made starts size written same =
    let long : place + m ≤ length s = omega (arith, ap length made, length_grid n m from f d) in
    put_written m place v s size long written ∙ put_same m place v (f n) s same ∙ grid_more n m from f d made starts
