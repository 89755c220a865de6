-- Bits and fields of two lists of bytes, alike or in a row, and bytes to which field after field is written. Assumes nothing.
use Prim.Native.Nat.{ℕ, ◌+◌, ◌-◌, ◌*◌, ◌/◌, ◌%◌, ◌≤◌, ◌<◌}
use mathlib.Core.Path.{◌≡◌, refl, sym, ap, ◌∙◌}
use mathlib.Core.List.{List, [], ◌∷◌, ◌++◌}
use mathlib.Core.Logic.{⊎_elim}
use native.Mathlib.Omega.{arith}
use lib.ListN.{length, get_or-append}
use lib.Seq.{get_or-append-add}
use Rattle.lists.specs.Lists.{at, tab, over}
use Rattle.lists.proofs.TabLaws.{order}
use Rattle.lists.proofs.OverLaws.{over_within, over_below, over_above, over_same}
use Rattle.bits.specs.Fields.{BitField, bit_of, bits_of, widths, number, packed, bytes_for, pack, bit_at, field_at, with_field}
use Rattle.bits.proofs.NumberLaws.{number_same}
use Rattle.bits.proofs.PackLaws.{packed_length, packed_bit, packed_same, bits_here, bits_front, bits_rest, bits_past}

-- a bit and a field in the first n bytes of two lists that agree there
pub bit_same : (a b : List ℕ) (n k : ℕ) → ((i : ℕ) → i < n → at a i ≡ at b i) → k < 8 * n → bit_at a k ≡ bit_at b k
unfolding bit_at
bit_same a b n k e h = rw (e (k / 8) (omega arith))

pub field_same : (a b : List ℕ) (n from w : ℕ) → ((i : ℕ) → i < n → at a i ≡ at b i) → from + w ≤ 8 * n → field_at a from w ≡ field_at b from w
unfolding field_at
field_same a b n from w e h = number_same _ _ w (λ i l. bit_same a b n (from + i) e (omega arith))

-- a bit of the first list, and a field of it
pub bit_front : (a b : List ℕ) (k : ℕ) → k < 8 * length a → bit_at (a ++ b) k ≡ bit_at a k
bit_front a b k h = bit_same (a ++ b) a (length a) k (get_or-append a b 0) h

pub field_front : (a b : List ℕ) (from w : ℕ) → from + w ≤ 8 * length a → field_at (a ++ b) from w ≡ field_at a from w
field_front a b from w h = field_same (a ++ b) a (length a) from w (get_or-append a b 0) h

-- a bit of the second
pub bit_behind : (a b : List ℕ) (n k : ℕ) → length a ≡ n → bit_at (a ++ b) (8 * n + k) ≡ bit_at b k
unfolding bit_at
bit_behind a b n k e =
    let q : (8 * n + k) / 8 ≡ length a + k / 8 = omega arith in
    let r : (8 * n + k) % 8 ≡ k % 8 = omega arith in
    rw (q, r, get_or-append-add a b (k / 8) 0)

-- the bits of one field more, and those that it takes
bits_append : (fs : List BitField) (f : BitField) (k : ℕ) → over (widths fs) f.width (bit_of f.width f.value) (bits_of fs) k ≡ bits_of (fs ++ (f ∷ [])) k
unfolding widths
bits_append fs f k =
    ⊎_elim
    (λ (l : k < widths fs). over_below (widths fs) f.width _ (bits_of fs) k l ∙ sym (bits_front fs (f ∷ []) k l))
    (λ (m : widths fs ≤ k).
    ⊎_elim
    (λ (l : k < widths fs + f.width). over_within (widths fs) f.width _ (bits_of fs) k m l ∙ sym (behind m ∙ bits_here f [] (k - widths fs) (omega arith)))
    (λ (l : widths fs + f.width ≤ k).
    over_above (widths fs) f.width _ (bits_of fs) k l ∙ bits_past fs k m ∙ sym (behind m ∙ bits_past (f ∷ []) (k - widths fs) (omega arith)))
    (order k (widths fs + f.width)))
    (order k (widths fs))
  where
    behind : widths fs ≤ k → bits_of (fs ++ (f ∷ [])) k ≡ bits_of (f ∷ []) (k - widths fs)
    behind m =
        let q : k ≡ widths fs + (k - widths fs) = omega arith in
        ap (bits_of (fs ++ (f ∷ []))) q ∙ bits_rest fs (f ∷ []) (k - widths fs)

pub widths_more : (fs : List BitField) (f : BitField) → widths (fs ++ (f ∷ [])) ≡ widths fs + f.width
unfolding widths
widths_more [] f = omega arith
widths_more (g ∷ fs) f = rw (widths_more fs f) (omega arith)

-- a field written behind the others
pub append_field : (len : ℕ) (fs : List BitField) (f : BitField)
    → with_field (packed len (bits_of fs)) (widths fs) f.width f.value ≡ packed len (bits_of (fs ++ (f ∷ [])))
unfolding with_field
append_field len fs f =
    rw packed_length
    (packed_same len _ (bits_of (fs ++ (f ∷ []))) (λ k h.
    over_same (widths fs) f.width _ _ _ (bits_of fs) k (λ j l. refl) (packed_bit len (bits_of fs) k h) ∙ bits_append fs f k))

-- `len` bytes hold fields, n bits together, and zero bits behind them
pub record Holds (len : ℕ) (fs : List BitField) (n : ℕ) (s : List ℕ) : Type 0 where
  pub sized : length s ≡ len
  pub bytes : s ≡ packed len (bits_of fs)
  pub bits : widths fs ≡ n

holds : {len n : ℕ} {fs : List BitField} {s : List ℕ} → s ≡ packed len (bits_of fs) → widths fs ≡ n → Holds len fs n s
holds {len} {fs = fs} b w = record { sized = rw b (packed_length len (bits_of fs)); bytes = b; bits = w }

-- no field, one more, all that are packed
pub holds_none : {len : ℕ} {s : List ℕ} → s ≡ tab len (λ i. 0) → Holds len [] 0 s
unfolding packed bits_of number widths
holds_none clear = holds clear refl

pub holds_more : {len n : ℕ} {fs : List BitField} {s r : List ℕ} (f : BitField) → Holds len fs n s → r ≡ with_field s n f.width f.value
    → Holds len (fs ++ (f ∷ [])) (n + f.width) r
holds_more {len} {fs = fs} f h wrote = holds (wrote ∙ rw (h.bytes, ← h.bits) (append_field len fs f)) (widths_more fs f ∙ rw h.bits)

pub holds_packed : {n : ℕ} {fs : List BitField} {s : List ℕ} → Holds (bytes_for n) fs n s → s ≡ pack fs
unfolding pack
holds_packed h = rw h.bits h.bytes
