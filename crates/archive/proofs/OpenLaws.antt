-- What Open's answer tells, and what it writes. Assumes nothing.
use Prim.Native.Nat.{ℕ, ◌+◌, ◌-◌, ◌<◌, ◌≤◌}
use mathlib.Core.Path.{◌≡◌, refl, sym, ◌∙◌}
use mathlib.Core.Bool.{false}
use mathlib.Core.List.{List, [], ◌∷◌, ◌++◌}
use mathlib.Core.Logic.{⊎_elim}
use native.Mathlib.Omega.{arith}
use lib.ListN.{length, get_or-append}
use Rattle.lists.specs.Lists.{at, tab, put}
use Rattle.lists.proofs.TabLaws.{order}
use Rattle.lists.proofs.PutLaws.{length_put, put_below, put_above, put_at, skip}
use Rattle.lists.proofs.AnyLaws.{none_at}
use Rattle.answer.specs.Answer.{Outcome, done}
use Rattle.answer.proofs.RefusalLaws.{accepted, same}
use Rattle.bits.specs.Fields.{◌wide◌, bits_of, widths, packed, pack, with_field}
use Rattle.bits.proofs.PackLaws.{packed_length, packed_at, packed_same, bits_zero, packed_zero, packed_past}
use Rattle.bits.proofs.AppendLaws.{holds_none, holds_more}
use Rattle.sizes.specs.declared.Sizes.{Sizes}
use Rattle.sizes.specs.Sizes.{sizes_outside}
use Rattle.sizes.specs.Lengths.{archive_length, record_start}
use Rattle.archive.specs.Layout.{layout_outside, tag_field, size_fields, archive_of}
use Rattle.archive.specs.Open.{opened, open_answer}
use Rattle.sizes.proofs.PlaceLaws.{record_fits}
use Rattle.archive.proofs.LayoutLaws.{sizes_length, length_archive, archive_front, archive_marks, archive_byte, same_bytes}

-- ---- the answer

module _ (layout : ℕ) (z : Sizes) (id archive : List ℕ) {o : Outcome} (answer : o ≡ open_answer layout z id archive) where
  pub open_ranges : o ≡ done → (layout_outside layout z.tags ≡ false) × (sizes_outside z ≡ false)
  unfolding open_answer
  open_ranges e = let t = (accepted _ _ _ (sym answer ∙ e)).0 in (none_at _ 0 t, none_at _ 1 t)

  pub open_lengths : o ≡ done → (length id ≡ 8) × (length archive ≡ archive_length z)
  unfolding open_answer
  open_lengths e = let t = (accepted _ _ _ (accepted _ _ _ (sym answer ∙ e)).1).0 in (same _ _ (none_at _ 0 t), same _ _ (none_at _ 1 t))

-- ---- the new archive

module _ (layout : ℕ) (z : Sizes) (id : List ℕ) (e : length id ≡ 8) where
  -- zero bytes with the sizes in front, and then the id
  abbrev sized : List ℕ
  sized = packed (archive_length z) (bits_of (size_fields layout z))

  abbrev made : List ℕ
  made = put 8 4 (at id) sized

  abbrev new : List ℕ
  new = archive_of layout z id (λ k. false) (λ k p. 0)

  -- a byte of the sizes, of the id, and behind them
  first_byte : (i : ℕ) → i < 4 → at made i ≡ at (pack (size_fields layout z) ++ id) i
  unfolding pack widths
  first_byte i h =
      put_below 8 4 _ sized i h ∙ packed_at (archive_length z) (bits_of (size_fields layout z)) i (omega arith) ∙ sym (packed_at 4 (bits_of (size_fields layout z)) i h)
      ∙ sym (get_or-append (pack (size_fields layout z)) id 0 i (rw (sizes_length layout z) h))

  id_byte : (i : ℕ) → i < 8 → at made (4 + i) ≡ at (pack (size_fields layout z) ++ id) (4 + i)
  id_byte i h =
      put_at 8 4 (at id) sized i h (rw packed_length (omega arith)) ∙ sym (skip (pack (size_fields layout z)) id 4 i (sizes_length layout z))

  zero_byte : (i : ℕ) → 12 ≤ i → i < archive_length z → at made i ≡ 0
  unfolding widths
  zero_byte i a b = put_above 8 4 _ sized i a ∙ packed_past (archive_length z) (size_fields layout z) i b (omega arith)

  made_front : (i : ℕ) → i < 12 → at made i ≡ at new i
  made_front i h =
      ⊎_elim (first_byte i) (λ (l : 4 ≤ i). let q : i ≡ 4 + (i - 4) = omega arith in rw q (id_byte (i - 4) (omega arith))) (order i 4)
      ∙ sym (archive_front layout z id e (λ k. false) (λ k p. 0) i h)

  made_marks : (j : ℕ) → j < 6 → at made (12 + j) ≡ at new (12 + j)
  made_marks j h =
      zero_byte (12 + j) (omega arith) (omega arith)
      ∙ sym (archive_marks layout z id e (λ k. false) (λ k p. 0) j h ∙ packed_zero 6 (λ k. false) j h (λ i l. refl))

  made_is : made ≡ opened layout z id
  unfolding opened
  made_is =
      same_bytes z made new (length_put 8 4 _ sized ∙ packed_length (archive_length z) (bits_of (size_fields layout z))) (length_archive layout z id e _ _) made_front made_marks
      (λ k p h hp. zero_byte (record_start z k + p) (omega arith) (omega (arith, record_fits z k h)) ∙ sym (archive_byte layout z id e (λ k. false) (λ k p. 0) k p h hp))

-- six fields on cleared bytes: the zero bit behind them is there
pub sizes_written : (layout : ℕ) (z : Sizes) (len : ℕ) {said : ℕ} {a b c d f g s : List ℕ} → said ≡ tag_field layout z.tags → a ≡ tab len (λ i. 0)
    → b ≡ with_field a 0 4 layout → c ≡ with_field b 4 11 z.n → d ≡ with_field c 15 5 z.m → f ≡ with_field d 20 4 z.places
    → g ≡ with_field f 24 3 z.nodes → s ≡ with_field g 27 4 said → s ≡ packed len (bits_of (size_fields layout z))
sizes_written layout z len says clear one two three four five six =
    let h = holds_more (4 wide tag_field layout z.tags) (holds_more (3 wide z.nodes) (holds_more (4 wide z.places) (holds_more (5 wide z.m)
    (holds_more (11 wide z.n) (holds_more (4 wide layout) (holds_none clear) one) two) three) four) five) (rw says at six) in
    h.bytes ∙ packed_same len _ (bits_of (size_fields layout z)) (λ k l.
    bits_zero
    ((4 wide layout) ∷ (11 wide z.n) ∷ (5 wide z.m) ∷ (4 wide z.places) ∷ (3 wide z.nodes) ∷ (4 wide tag_field layout z.tags) ∷ []) 1 k)

pub new_written : (layout : ℕ) (z : Sizes) (id : List ℕ) {n : ℕ} {s r : List ℕ} → length id ≡ 8 → n ≡ archive_length z
    → s ≡ packed n (bits_of (size_fields layout z)) → r ≡ put 8 4 (at id) s → r ≡ opened layout z id
new_written layout z id l e sizes made = made ∙ rw (sizes, e) (made_is layout z id l)
