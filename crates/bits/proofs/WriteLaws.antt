-- Laws of `with_field`: the turns of a loop that writes bit after bit, and what `Written` says. Assumes nothing.
use Prim.Native.Nat.{ℕ, ◌+◌, ◌-◌, ◌*◌, ◌/◌, ◌%◌, ◌^◌, ◌<◌, ◌≤◌}
use mathlib.Core.Path.{◌≡◌, sym, ap, ◌∙◌}
use mathlib.Core.Bool.{Bool}
use mathlib.Core.List.{List}
use mathlib.Core.Logic.{⊎_elim}
use native.Mathlib.Decide.{ℕ_discrete}
use native.Mathlib.Nat.{mul-le-mul_right}
use native.Mathlib.Omega.{arith}
use lib.ListN.{length, set, length-set}
use lib.Pow.{split}
use lib.Seq.{get_or-set_same, get_or-set_other}
use Rattle.lists.specs.Lists.{at, over, bit}
use Rattle.lists.proofs.TabLaws.{order, is_tab}
use Rattle.lists.proofs.OverLaws.{over_in, over_below, over_above}
use Rattle.bits.specs.Fields.{bit_of, number, packed, bit_at, field_at, with_field}
use Rattle.bits.proofs.NumberLaws.{bit_odd, number_same, number_low, number_other}
use Rattle.bits.proofs.PackLaws.{packed_length, packed_bit, packed_same, byte_bits, bytes_packed, past_end, field_back}

-- what `Written` says
pub write_length : (s : List ℕ) (from w v : ℕ) → length (with_field s from w v) ≡ length s
unfolding with_field
write_length s from w v = packed_length (length s) _

pub write_field : (s : List ℕ) (from w v : ℕ) → from + w ≤ 8 * length s → v < 2 ^ w → field_at (with_field s from w v) from w ≡ v
unfolding with_field
write_field s from w v fits l =
    field_back (with_field s from w v) from w v l (λ i h. packed_bit (length s) _ (from + i) (omega arith) ∙ over_in from w (bit_of w v) _ i h)

kept : (s : List ℕ) (bits : ℕ → Bool) (k : ℕ) → bits k ≡ bit_at s k → bit_at (packed (length s) bits) k ≡ bit_at s k
kept s bits k e =
    ⊎_elim
    (λ (l : k < 8 * length s). packed_bit (length s) bits k l ∙ e)
    (λ (l : 8 * length s ≤ k).
    past_end (packed (length s) bits) k (omega (arith, packed_length (length s) bits)) ∙ sym (past_end s k l))
    (order k (8 * length s))

pub write_below : (s : List ℕ) (from w v k : ℕ) → k < from → bit_at (with_field s from w v) k ≡ bit_at s k
unfolding with_field
write_below s from w v k h = kept s _ k (over_below from w (bit_of w v) (bit_at s) k h)

pub write_above : (s : List ℕ) (from w v k : ℕ) → from + w ≤ k → bit_at (with_field s from w v) k ≡ bit_at s k
unfolding with_field
write_above s from w v k h = kept s _ k (over_above from w (bit_of w v) (bit_at s) k h)

-- one bit: the byte that holds it loses the old bit o and gains v, each times the bit's weight p
flag_bit : (v : ℕ) → v < 2 → bit (bit_of 1 v 0) ≡ v
unfolding bit_of
flag_bit v h = bit_odd (v / 1) ∙ omega arith

module _ (s : List ℕ) (k v o p : ℕ) (bytes : (i : ℕ) → at s i < 256) (fits : k < 8 * length s) (flag : v < 2)
    (old : o ≡ bit (bit_at s k)) (weight : p ≡ 2 ^ (7 - k % 8)) where
  abbrev new : ℕ → Bool
  new = over k 1 (bit_of 1 v) (bit_at s)

  abbrev byte : ℕ → ℕ
  byte j = number (λ i. new (8 * j + i)) 8

  new_here : bit (new k) ≡ v
  new_here =
      let q : k ≡ k + 0 = omega arith in
      ap (λ (m : ℕ). bit (new m)) q ∙ ap bit (over_in k 1 (bit_of 1 v) (bit_at s) 0 (omega arith)) ∙ flag_bit v flag

  new_other : (m : ℕ) → (m ≡ k → ⊥) → new m ≡ bit_at s m
  new_other m n =
      ⊎_elim (over_below k 1 (bit_of 1 v) (bit_at s) m) (λ (l : k ≤ m). over_above k 1 (bit_of 1 v) (bit_at s) m (omega arith))
      (order m k)

  byte_other : (j : ℕ) → (j ≡ k / 8 → ⊥) → at s j ≡ byte j
  byte_other j n =
      sym (byte_bits s j (bytes j))
      ∙ number_same (λ i. bit_at s (8 * j + i)) (λ i. new (8 * j + i)) 8 (λ i l. sym (new_other (8 * j + i) (λ e. n (omega arith))))

  byte_here : byte (k / 8) + o * p ≡ at s (k / 8) + v * p
  byte_here =
      let q : 8 * (k / 8) + k % 8 ≡ k = omega arith in
      let both = number_other (λ i. new (8 * (k / 8) + i)) (λ i. bit_at s (8 * (k / 8) + i)) (k % 8) (7 - k % 8) 8 (omega arith)
      (λ j l n. new_other (8 * (k / 8) + j) (λ e. n (omega arith))) in
      rw (old, weight) (rw (q, new_here, byte_bits s (k / 8) (bytes (k / 8))) at both)

  bit_cleared : o * p ≤ at s (k / 8)
  unfolding bit_at
  bit_cleared =
      let e : ℕ = 7 - k % 8 in
      let b : ℕ = at s (k / 8) in
      let less : b / 2 ^ e % 2 ≤ b / 2 ^ e = omega arith in
      rw (old, weight, bit_odd) (omega (arith, split b e, mul-le-mul_right (2 ^ e) less))

  byte_new : at s (k / 8) - o * p + v * p ≡ byte (k / 8)
  byte_new = omega (arith, byte_here, bit_cleared)

  byte_low : at s (k / 8) - o * p + v * p < 256
  byte_low = omega (arith, byte_new, number_low (λ i. new (8 * (k / 8) + i)) 8)

  bit_set : set s (k / 8) (at s (k / 8) - o * p + v * p) ≡ with_field s k 1 v
  unfolding with_field packed
  bit_set =
      is_tab (length s) byte _ (length-set s (k / 8) _) (λ j h.
      elim (ℕ_discrete j (k / 8)) [
        | yes e ↦ rw e (get_or-set_same s (k / 8) _ 0 (omega arith) ∙ byte_new)
        | no n ↦ get_or-set_other s (k / 8) j _ 0 n ∙ byte_other j n
      ])

  pub bit_step : (j b : ℕ) → j ≡ k / 8 → b ≡ at s j
      → (o * p ≤ b) × (b - o * p + v * p < 256) × (set s j (b - o * p + v * p) ≡ with_field s k 1 v)
  bit_step j b place here = rw (here, place) (bit_cleared, byte_low, bit_set)

-- a field, bit after bit: none, one more
module _ (s : List ℕ) (from w v : ℕ) where
  abbrev so_far : ℕ → ℕ → Bool
  so_far i = over from i (bit_of w v) (bit_at s)

  pub bits_none : ((i : ℕ) → at s i < 256) → s ≡ packed (length s) (so_far 0)
  bits_none bytes =
      bytes_packed s bytes
      ∙ packed_same (length s) (bit_at s) (so_far 0) (λ k h.
      sym
      (⊎_elim (over_below from 0 (bit_of w v) (bit_at s) k) (λ (l : from ≤ k). over_above from 0 (bit_of w v) (bit_at s) k (omega arith))
      (order k from)))

  module _ (t : List ℕ) (i u : ℕ) (e : t ≡ packed (length s) (so_far i)) (is : u ≡ v / 2 ^ (w - 1 - i) % 2) where
    same_bit : bit_of 1 u 0 ≡ bit_of w v i
    unfolding bit_of
    same_bit =
        let q : w - 1 - i ≡ w - (i + 1) = omega arith in
        let d : u ≡ v / 2 ^ (w - (i + 1)) % 2 = rw q at is in
        let r : u / 1 % 2 ≡ v / 2 ^ (w - (i + 1)) % 2 = omega arith in
        rw r

    read : (k : ℕ) → k < 8 * length s → bit_at t k ≡ so_far i k
    read k h = rw e (packed_bit (length s) (so_far i) k h)

    one_more : (k : ℕ) → k < 8 * length s → over (from + i) 1 (bit_of 1 u) (bit_at t) k ≡ so_far (i + 1) k
    one_more k h =
        ⊎_elim
        (λ (l : k < from + i). over_below (from + i) 1 (bit_of 1 u) (bit_at t) k l ∙ read k h ∙ earlier l)
        (λ (l : from + i ≤ k).
        elim (ℕ_discrete k (from + i)) [
          | yes q ↦ rw q (here ∙ sym (over_in from (i + 1) (bit_of w v) (bit_at s) i (omega arith)))
          | no n ↦
              over_above (from + i) 1 (bit_of 1 u) (bit_at t) k (omega arith) ∙ read k h
              ∙ over_above from i (bit_of w v) (bit_at s) k l ∙ sym (over_above from (i + 1) (bit_of w v) (bit_at s) k (omega arith))
        ])
        (order k (from + i))
      where
        here : over (from + i) 1 (bit_of 1 u) (bit_at t) (from + i) ≡ bit_of w v i
        here =
            let q : from + i ≡ from + i + 0 = omega arith in
            ap (over (from + i) 1 (bit_of 1 u) (bit_at t)) q ∙ over_in (from + i) 1 (bit_of 1 u) (bit_at t) 0 (omega arith) ∙ same_bit

        earlier : k < from + i → so_far i k ≡ so_far (i + 1) k
        earlier l =
            ⊎_elim
            (λ (b : k < from). over_below from i (bit_of w v) (bit_at s) k b ∙ sym (over_below from (i + 1) (bit_of w v) (bit_at s) k b))
            (λ (b : from ≤ k).
            let q : k ≡ from + (k - from) = omega arith in
            rw q (over_in from i (bit_of w v) (bit_at s) (k - from) (omega arith) ∙ sym (over_in from (i + 1) (bit_of w v) (bit_at s) (k - from) (omega arith))))
            (order k from)

    more : with_field t (from + i) 1 u ≡ packed (length s) (so_far (i + 1))
    unfolding with_field
    more =
        let l : length t ≡ length s = rw e (packed_length (length s) (so_far i)) in
        rw l (packed_same (length s) (over (from + i) 1 (bit_of 1 u) (bit_at t)) (so_far (i + 1)) one_more)

  pub bits_more : (t r : List ℕ) (i u : ℕ) → r ≡ with_field t (from + i) 1 u → t ≡ packed (length s) (so_far i)
      → u ≡ v / 2 ^ (w - 1 - i) % 2 → r ≡ packed (length s) (so_far (i + 1))
  bits_more t r i u wrote e is = wrote ∙ more t i u e is
