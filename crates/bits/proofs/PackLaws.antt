-- Laws of `packed`, `bit_at`, `field_at` and `pack`. Assumes nothing.
use Prim.Native.Nat.{ℕ, ◌+◌, ◌-◌, ◌*◌, ◌/◌, ◌%◌, ◌^◌, ◌<◌, ◌≤◌}
use mathlib.Core.Path.{◌≡◌, refl, sym, ap, ◌∙◌}
use mathlib.Core.Bool.{Bool, false}
use mathlib.Core.List.{List, [], ◌∷◌, ◌++◌}
use mathlib.Core.Logic.{⊎_elim}
use native.Mathlib.Nat.{zero-div}
use native.Mathlib.Omega.{arith}
use lib.Dec.{ltb}
use lib.ListN.{length, get_or-eq_default}
use borrow.Author.Tests.{lt-ltb, le-ltb}
use Rattle.lists.specs.Lists.{at, bit}
use Rattle.lists.proofs.TabLaws.{order, length_tab, tab_at, is_tab, tab_same}
use Rattle.bits.specs.Fields.{BitField, ◌wide◌, bit_of, bits_of, widths, number, packed, bytes_for, pack, bit_at, field_at}
use Rattle.lists.proofs.AnyLaws.{pick_same}
use Rattle.lists.proofs.CountLaws.{bit_low}
use Rattle.bits.proofs.NumberLaws.{bit_odd, place_bit, number_same, number_low, number_none, number_more, number_small, number_back}

-- bytes with given bits
pub packed_length : (len : ℕ) (bits : ℕ → Bool) → length (packed len bits) ≡ len
unfolding packed
packed_length len bits = length_tab len _

pub packed_at : (len : ℕ) (bits : ℕ → Bool) (j : ℕ) → j < len → at (packed len bits) j ≡ number (λ i. bits (8 * j + i)) 8
unfolding packed
packed_at len bits j h = tab_at len _ j h

pub packed_bit : (len : ℕ) (bits : ℕ → Bool) (k : ℕ) → k < 8 * len → bit_at (packed len bits) k ≡ bits k
unfolding bit_at packed
packed_bit len bits k h =
    let q : 8 * (k / 8) + k % 8 ≡ k = omega arith in
    rw (tab_at len (λ j. number (λ i. bits (8 * j + i)) 8) (k / 8) (omega arith))
    (place_bit (λ i. bits (8 * (k / 8) + i)) (k % 8) _ (bits k) (ap bits q) (omega arith))

pub packed_same : (len : ℕ) (f g : ℕ → Bool) → ((k : ℕ) → k < 8 * len → f k ≡ g k) → packed len f ≡ packed len g
unfolding packed
packed_same len f g h =
    tab_same len _ _ (λ j l. number_same (λ i. f (8 * j + i)) (λ i. g (8 * j + i)) 8 (λ i m. h (8 * j + i) (omega arith)))

-- a byte, and a list of bytes, is made of its own bits
pub byte_bits : (s : List ℕ) (j : ℕ) → at s j < 256 → number (λ i. bit_at s (8 * j + i)) 8 ≡ at s j
unfolding bit_at bit_of
byte_bits s j low =
    number_same (λ i. bit_at s (8 * j + i)) (bit_of 8 (at s j)) 8 (λ i h.
    let q : (8 * j + i) / 8 ≡ j = omega arith in
    let r : 7 - (8 * j + i) % 8 ≡ 8 - (i + 1) = omega arith in
    rw (q, r))
    ∙ number_back 8 (at s j) low

pub bytes_packed : (s : List ℕ) → ((i : ℕ) → at s i < 256) → s ≡ packed (length s) (bit_at s)
unfolding packed
bytes_packed s low = is_tab (length s) _ s refl (λ j h. sym (byte_bits s j (low j)))

-- bit k of bytes, by its byte and the bits after it there
pub bit_read : (s : List ℕ) (k x j e : ℕ) → x ≡ at s j → j ≡ k / 8 → e ≡ 7 - k % 8 → x / 2 ^ e % 2 ≡ bit (bit_at s k)
unfolding bit_at
bit_read s k x j e here place after = rw (here, place, after) (sym (bit_odd _))

pub bit_flag : (s : List ℕ) (k x : ℕ) → x ≡ bit (bit_at s k) → x < 2
bit_flag s k x e = omega (arith, bit_low (bit_at s k))

-- past the end every bit is zero
pub past_end : (s : List ℕ) (k : ℕ) → 8 * length s ≤ k → bit_at s k ≡ false
unfolding bit_at
past_end s k h = rw (get_or-eq_default s 0 {n = k / 8} (omega arith), zero-div)

-- the field at a bit offset: it is v where its bits are v's; no bit, one bit more; its bound
pub field_back : (s : List ℕ) (from w v : ℕ) → v < 2 ^ w → ((i : ℕ) → i < w → bit_at s (from + i) ≡ bit_of w v i) → field_at s from w ≡ v
unfolding field_at
field_back s from w v l h = number_same (λ i. bit_at s (from + i)) (bit_of w v) w h ∙ number_back w v l

pub field_none : (s : List ℕ) (from : ℕ) → field_at s from 0 ≡ 0
unfolding field_at
field_none s from = sym (number_none _)

pub field_more : (s : List ℕ) (from w x y : ℕ) → x ≡ field_at s from w → y ≡ bit (bit_at s (from + w)) → x * 2 + y ≡ field_at s from (w + 1)
unfolding field_at
field_more s from w x y e h = number_more (λ i. bit_at s (from + i)) w e h

pub field_low : (s : List ℕ) (from w : ℕ) → field_at s from w < 2 ^ w
unfolding field_at
field_low s from w = number_low (λ i. bit_at s (from + i)) w

pub field_small : (s : List ℕ) (from w x : ℕ) → x ≡ field_at s from w → w ≤ 16 → x < 65536
unfolding field_at
field_small s from w x e h = number_small (λ i. bit_at s (from + i)) w e h

-- fields in a row: the bits of the first, of the earlier ones, of the later ones, and past the last
pub bits_here : (f : BitField) (fs : List BitField) (i : ℕ) → i < f.width → bits_of (f ∷ fs) i ≡ bit_of f.width f.value i
unfolding bits_of
bits_here f fs i h = rw (lt-ltb i f.width h)

bits_skip : (f : BitField) (fs : List BitField) (k : ℕ) → bits_of (f ∷ fs) (f.width + k) ≡ bits_of fs k
unfolding bits_of
bits_skip f fs k =
    let q : f.width + k - f.width ≡ k = omega arith in
    rw (le-ltb (f.width + k) f.width (omega arith), q)

pub bits_front : (before rest : List BitField) (k : ℕ) → k < widths before → bits_of (before ++ rest) k ≡ bits_of before k
unfolding widths bits_of
bits_front [] rest k h = absurd (omega arith)
bits_front (f ∷ before) rest k h =
    ⊎_elim
    (λ (l : k < f.width). bits_here f (before ++ rest) k l ∙ sym (bits_here f before k l))
    (λ (l : f.width ≤ k). rw (le-ltb k f.width l) (bits_front before rest (k - f.width) (omega arith)))
    (order k f.width)

pub bits_rest : (before rest : List BitField) (k : ℕ) → bits_of (before ++ rest) (widths before + k) ≡ bits_of rest k
unfolding widths
bits_rest [] rest k = let q : 0 + k ≡ k = omega arith in rw q refl
bits_rest (f ∷ before) rest k =
    let q : f.width + widths before + k ≡ f.width + (widths before + k) = omega arith in
    ap (bits_of (f ∷ (before ++ rest))) q ∙ bits_skip f (before ++ rest) (widths before + k) ∙ bits_rest before rest k

pub bits_past : (fs : List BitField) (k : ℕ) → widths fs ≤ k → bits_of fs k ≡ false
unfolding widths bits_of
bits_past [] k h = refl
bits_past (f ∷ fs) k h = rw (le-ltb k f.width (omega arith)) (bits_past fs (k - f.width) (omega arith))

-- zero bits behind them change nothing
zero_bits : (w k : ℕ) → bits_of ((w wide 0) ∷ []) k ≡ false
unfolding bits_of bit_of
zero_bits w k = rw zero-div (pick_same (ltb k w) false)

pub bits_zero : (fs : List BitField) (w k : ℕ) → bits_of fs k ≡ bits_of (fs ++ ((w wide 0) ∷ [])) k
bits_zero fs w k =
    ⊎_elim
    (λ (l : k < widths fs). sym (bits_front fs ((w wide 0) ∷ []) k l))
    (λ (l : widths fs ≤ k).
    let q : k ≡ widths fs + (k - widths fs) = omega arith in
    bits_past fs k l ∙ sym (ap (bits_of (fs ++ ((w wide 0) ∷ []))) q ∙ bits_rest fs ((w wide 0) ∷ []) (k - widths fs) ∙ zero_bits w (k - widths fs)))
    (order k (widths fs))

-- a byte of zero bits, and one past the last field
pub packed_zero : (len : ℕ) (bits : ℕ → Bool) (j : ℕ) → j < len → ((i : ℕ) → i < 8 → bits (8 * j + i) ≡ false) → at (packed len bits) j ≡ 0
unfolding number
packed_zero len bits j h none = packed_at len bits j h ∙ number_same (λ i. bits (8 * j + i)) (λ i. false) 8 none

pub packed_past : (len : ℕ) (fs : List BitField) (j : ℕ) → j < len → widths fs ≤ 8 * j → at (packed len (bits_of fs)) j ≡ 0
packed_past len fs j h past = packed_zero len (bits_of fs) j h (λ i l. bits_past fs (8 * j + i) (omega arith))

widths_within : (before : List BitField) (f : BitField) (rest : List BitField) → widths before + f.width ≤ widths (before ++ (f ∷ rest))
unfolding widths
widths_within [] f rest = omega arith
widths_within (g ∷ before) f rest = omega (arith, widths_within before f rest)

-- what `RoundTrip` says
pub pack_length : (fs : List BitField) → length (pack fs) ≡ bytes_for (widths fs)
unfolding pack
pack_length fs = packed_length (bytes_for (widths fs)) (bits_of fs)

pub pack_field : (before : List BitField) (f : BitField) (rest : List BitField) → f.value < 2 ^ f.width
    → field_at (pack (before ++ (f ∷ rest))) (widths before) f.width ≡ f.value
unfolding pack
pack_field before f rest l =
    let fs : List BitField = before ++ (f ∷ rest) in
    field_back (pack fs) (widths before) f.width f.value l (λ i h.
    packed_bit (bytes_for (widths fs)) (bits_of fs) (widths before + i) (omega (arith, widths_within before f rest))
    ∙ bits_rest before (f ∷ rest) i ∙ bits_here f rest i h)

pub pack_spare : (fs : List BitField) (k : ℕ) → widths fs ≤ k → bit_at (pack fs) k ≡ false
unfolding pack
pack_spare fs k h =
    ⊎_elim
    (λ (l : k < 8 * bytes_for (widths fs)). packed_bit (bytes_for (widths fs)) (bits_of fs) k l ∙ bits_past fs k h)
    (λ (l : 8 * bytes_for (widths fs) ≤ k). past_end (pack fs) k (omega (arith, pack_length fs)))
    (order k (8 * bytes_for (widths fs)))
