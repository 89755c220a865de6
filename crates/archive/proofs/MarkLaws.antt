-- Marks as code reads and writes them. Assumes nothing.
use Prim.Native.Nat.{ℕ, ◌+◌, ◌*◌, ◌/◌, ◌%◌, ◌<◌, ◌≤◌}
use mathlib.Core.Path.{◌≡◌, refl, sym, ap, ◌∙◌}
use mathlib.Core.Bool.{Bool}
use mathlib.Core.List.{List}
use native.Mathlib.Omega.{arith}
use lib.Dec.{eqb}
use lib.ListN.{length}
use lib.Pow.{pow_mono}
use Rattle.lists.proofs.TabLaws.{tab_at}
use Rattle.lists.specs.Lists.{at, tab, put, over, bit}
use Rattle.lists.proofs.PutLaws.{put_at, put_same, put_again, is_put, grid_below}
use Rattle.bits.specs.Fields.{number, packed, bit_at, field_at}
use Rattle.bits.proofs.NumberLaws.{bit_back, number_low, number_same}
use Rattle.bits.proofs.PackLaws.{packed_at, packed_bit, packed_same, byte_bits}
use Rattle.bits.proofs.AppendLaws.{bit_same}
use Rattle.sizes.specs.declared.Sizes.{Sizes}
use Rattle.sizes.specs.Lengths.{record_length, record_start}
use Rattle.archive.specs.Layout.{mark_at, with_marks, stored}

-- ---- reading

pub mark_field : (s : List ℕ) (k : ℕ) {x : ℕ} → x ≡ field_at s (96 + k) 1 → x ≡ bit (mark_at s k)
unfolding field_at number mark_at
mark_field s k e = let q : 96 + k + 0 ≡ 96 + k = omega arith in e ∙ rw q (omega arith)

pub mark_read : (s : List ℕ) (k : ℕ) {x : ℕ} → x ≡ field_at s (96 + k) 1 → eqb x 1 ≡ mark_at s k
mark_read s k e = rw (mark_field s k e) (bit_back (mark_at s k))

-- ---- those of `count` places from k on become v

module _ (s : List ℕ) (k count : ℕ) (v : Bool) where
  abbrev pub new_marks : ℕ → Bool
  new_marks = over k count (λ j. v) (mark_at s)

  -- byte j of them, bit after bit
  abbrev pub mark_bits : ℕ → ℕ → Bool
  mark_bits j i = new_marks (8 * j + i)

-- one bit more than fewer than eight still makes a byte
pub seven_bits : (bits : ℕ → Bool) (i x : ℕ) → i < 8 → x ≡ number bits i → x * 2 + 1 < 256
seven_bits bits i x l e = omega (arith, number_low bits i, pow_mono {i = i} {j = 7} (omega arith))

-- the bytes of the marks, copied to their place
pub marks_written : (mark : ℕ → Bool) (s : List ℕ) {u t : List ℕ} → u ≡ tab 6 (at (packed 6 mark)) → t ≡ put 6 12 (at u) s → t ≡ with_marks mark s
unfolding with_marks
marks_written mark s e w = w ∙ put_same 6 12 _ _ s (λ i h. ap (λ (l : List ℕ). at l i) e ∙ tab_at 6 _ i h)

-- ---- marks that are written

-- only those there are count
pub marks_same : (f g : ℕ → Bool) (s : List ℕ) → ((i : ℕ) → i < 48 → f i ≡ g i) → with_marks f s ≡ with_marks g s
unfolding with_marks
marks_same f g s h = rw (packed_same 6 f g h)

-- a byte of marks is made of these marks
pub marks_byte : (s : List ℕ) (j : ℕ) → j < 6 → at s (12 + j) < 256 → at (packed 6 (mark_at s)) j ≡ at s (12 + j)
unfolding mark_at
marks_byte s j h low =
    packed_at 6 (mark_at s) j h
    ∙ number_same (λ i. mark_at s (8 * j + i)) (λ i. bit_at s (8 * (12 + j) + i)) 8 (λ i l. ap (bit_at s) (omega arith))
    ∙ byte_bits s (12 + j) low

module _ (s : List ℕ) (long : 18 ≤ length s) where
  pub mark_written : (mark : ℕ → Bool) (i : ℕ) → i < 48 → mark_at (with_marks mark s) i ≡ mark i
  unfolding with_marks mark_at bit_at
  mark_written mark i h =
      let q : (96 + i) / 8 ≡ 12 + i / 8 = omega arith in
      let r : (96 + i) % 8 ≡ i % 8 = omega arith in
      rw (q, r, put_at 6 12 (at (packed 6 mark)) s (i / 8) (omega arith) (omega arith)) (packed_bit 6 mark i (omega arith))

  -- over marks that were written before, and those that are there
  pub marks_again : (f g : ℕ → Bool) → with_marks f (with_marks g s) ≡ with_marks f s
  unfolding with_marks
  marks_again f g = put_again 6 12 _ _ s long

  pub marks_own : ((i : ℕ) → at s i < 256) → s ≡ with_marks (mark_at s) s
  unfolding with_marks
  marks_own low =
      is_put 6 12 (at (packed 6 (mark_at s))) s s refl long (λ j h. sym (marks_byte s j h (low (12 + j)))) (λ k h. refl) (λ k h. refl)

-- after a store
pub stored_mark : (z : Sizes) (new : ℕ → Bool) (k count : ℕ) (rec : ℕ → ℕ → ℕ) (s : List ℕ) (i : ℕ) → 18 ≤ length s → i < 48
    → mark_at (stored z new k count rec s) i ≡ over k count new (mark_at s) i
unfolding stored mark_at
stored_mark z new k count rec s i long h =
    let marked : List ℕ = with_marks (over k count new (mark_at s)) s in
    bit_same (stored z new k count rec s) marked 18 (96 + i) (λ e l. grid_below count (record_length z) (record_start z k) rec marked e (omega arith))
    (omega arith)
    ∙ mark_written s long (over k count new (mark_at s)) i h
