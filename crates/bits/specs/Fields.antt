-- Bit-packed fields, most significant bit first, zero bits to a whole byte (SCHEME, Archive, Messages).
use Rattle.std.specs.Prelude.{ℕ, zero, suc, ◌+◌, ◌-◌, ◌*◌, ◌/◌, ◌%◌, ◌^◌, ◌<◌, ◌≤◌, ◌≡◌, Bool, false, List, [], ◌∷◌, ◌++◌, length, eqb, ltb}
use Rattle.lists.specs.Lists.{pick, at, tab, over, bit}

-- a field: its width in bits, and its value
pub record BitField : Type 0 where
  pub width : ℕ
  pub value : ℕ

infix 90 ◌wide◌
abbrev pub ◌wide◌ : ℕ → ℕ → BitField
◌wide◌ w v = record { width = w; value = v }

-- ---- packing

-- bit i, counted from 0, of a value of w bits, the most significant first
unfoldable pub bit_of : (w v i : ℕ) → Bool
bit_of w v i = eqb (v / 2 ^ (w - (i + 1)) % 2) 1

-- bit k of fields in a row; zero past the last
unfoldable pub bits_of : List BitField → ℕ → Bool
bits_of [] k = false
bits_of (f ∷ fs) k = pick (ltb k f.width) (bit_of f.width f.value k) (bits_of fs (k - f.width))

-- the bits that fields take together
unfoldable pub widths : List BitField → ℕ
widths [] = 0
widths (f ∷ fs) = f.width + widths fs

-- the number whose w bits are f 0, f 1, .., the most significant first
unfoldable pub number : (f : ℕ → Bool) (w : ℕ) → ℕ
number f zero = 0
number f (suc w) = number f w * 2 + bit (f w)

-- `len` bytes with these bits
unfoldable pub packed : (len : ℕ) (bits : ℕ → Bool) → List ℕ
packed len bits = tab len (λ j. number (λ i. bits (8 * j + i)) 8)

-- the bytes that hold so many bits
abbrev pub bytes_for : (bits : ℕ) → ℕ
bytes_for bits = (bits + 7) / 8

-- fields in a row, with zero bits to a whole byte
unfoldable pub pack : (fs : List BitField) → List ℕ
pack fs = packed (bytes_for (widths fs)) (bits_of fs)

-- ---- reading and writing a field at a bit offset

-- bit k of bytes
unfoldable pub bit_at : (s : List ℕ) (k : ℕ) → Bool
bit_at s k = eqb (at s (k / 8) / 2 ^ (7 - k % 8) % 2) 1

-- the field of w bits at bit `from`
unfoldable pub field_at : (s : List ℕ) (from w : ℕ) → ℕ
field_at s from w = number (λ i. bit_at s (from + i)) w

-- the same bytes, but for the w bits from bit `from` on, which are the value's
unfoldable pub with_field : (s : List ℕ) (from w v : ℕ) → List ℕ
with_field s from w v = packed (length s) (over from w (bit_of w v) (bit_at s))

-- ---- what is promised of them

-- what was packed is read back, field by field; nothing but zero bits follows the last
pub record RoundTrip : Type 0 where
  pub size : (fs : List BitField) → length (pack fs) ≡ bytes_for (widths fs)
  pub field : (before : List BitField) (f : BitField) (rest : List BitField) → f.value < 2 ^ f.width
      → field_at (pack (before ++ (f ∷ rest))) (widths before) f.width ≡ f.value
  pub spare : (fs : List BitField) (k : ℕ) → widths fs ≤ k → bit_at (pack fs) k ≡ false

-- a field that was written is read back, and every other bit is as it was
pub record Written : Type 0 where
  pub size : (s : List ℕ) (from w v : ℕ) → length (with_field s from w v) ≡ length s
  pub field : (s : List ℕ) (from w v : ℕ) → from + w ≤ 8 * length s → v < 2 ^ w → field_at (with_field s from w v) from w ≡ v
  pub below : (s : List ℕ) (from w v k : ℕ) → k < from → bit_at (with_field s from w v) k ≡ bit_at s k
  pub above : (s : List ℕ) (from w v k : ℕ) → from + w ≤ k → bit_at (with_field s from w v) k ≡ bit_at s k
