-- An archive by its parts: front, marks and records; a store changes the last two. Assumes nothing.
use Prim.Native.Nat.{ℕ, ◌+◌, ◌*◌, ◌<◌, ◌≤◌}
use mathlib.Core.Path.{◌≡◌, refl, sym, ap, ◌∙◌}
use mathlib.Core.Bool.{Bool, true, false}
use mathlib.Core.List.{List}
use native.Mathlib.Omega.{arith}
use lib.Dec.{leb}
use lib.ListN.{length}
use borrow.Author.Tests.{leb-true, le-leb}
use Rattle.lists.specs.Lists.{pick, at, over}
use Rattle.lists.proofs.OverLaws.{over_map, over_same}
use Rattle.lists.proofs.AnyLaws.{none_at, any_below_lem, any_same}
use Rattle.bits.specs.Fields.{packed, field_at}
use Rattle.bits.proofs.NumberLaws.{number_low}
use Rattle.bits.proofs.PackLaws.{packed_at, packed_same}
use Rattle.bits.proofs.AppendLaws.{field_same}
use Rattle.sizes.specs.declared.Sizes.{Sizes}
use Rattle.sizes.specs.Lengths.{place_count, record_length, archive_length}
use Rattle.archive.specs.Layout.{archive_of, layout_of, sizes_of, mark_at, byte_in, bad_for, bad_archive, stored}
use Rattle.archive.proofs.LayoutLaws.{five, length_archive, archive_front, archive_marks, mark_back, byte_back, same_bytes}
use Rattle.archive.proofs.GoodArchiveLaws.{good_length}
use Rattle.archive.proofs.MarkLaws.{marks_byte, stored_mark}
use Rattle.archive.proofs.StoreLaws.{length_stored, stored_front, stored_marks, stored_byte}

-- t has the first twelve bytes of s, these marks, and these records
pub record Parts (z : Sizes) (s : List ℕ) (mark : ℕ → Bool) (rec : ℕ → ℕ → ℕ) (t : List ℕ) : Type 0 where
  pub size : length t ≡ archive_length z
  pub front : (i : ℕ) → i < 12 → at t i ≡ at s i
  pub marks : (k : ℕ) → k < 48 → mark_at t k ≡ mark k
  pub bytes : (k p : ℕ) → k < place_count z → p < record_length z → byte_in z t k p ≡ rec k p

-- an archive of its own parts, and one that was written from parts
pub parts_own : (z : Sizes) (s : List ℕ) → length s ≡ archive_length z → Parts z s (mark_at s) (byte_in z s) s
parts_own z s long = record { size = long; front = λ i h. refl; marks = λ k h. refl; bytes = λ k p h hp. refl }

module _ (layout : ℕ) (z : Sizes) (id : List ℕ) (e : length id ≡ 8) (mark mark' : ℕ → Bool) (rec rec' : ℕ → ℕ → ℕ) where
  parts_archive : Parts z (archive_of layout z id mark rec) mark' rec' (archive_of layout z id mark' rec')
  parts_archive =
      record {
        size = length_archive layout z id e mark' rec';
        front = λ i h. archive_front layout z id e mark' rec' i h ∙ sym (archive_front layout z id e mark rec i h);
        marks = mark_back layout z id e mark' rec';
        bytes = byte_back layout z id e mark' rec';
      }

module _ {z : Sizes} {s : List ℕ} {mark : ℕ → Bool} {rec : ℕ → ℕ → ℕ} {t : List ℕ} (w : Parts z s mark rec t) where
  -- the same parts in other words
  pub parts_alike : {mark' : ℕ → Bool} {rec' : ℕ → ℕ → ℕ} → ((k : ℕ) → k < 48 → mark k ≡ mark' k)
      → ((k p : ℕ) → k < place_count z → p < record_length z → rec k p ≡ rec' k p) → Parts z s mark' rec' t
  parts_alike m r =
      record { size = w.size; front = w.front; marks = λ k h. w.marks k h ∙ m k h; bytes = λ k p h hp. w.bytes k p h hp ∙ r k p h hp }

  -- what a store leaves
  pub parts_stored : (new : ℕ → Bool) (k count : ℕ) (r : ℕ → ℕ → ℕ) → k + count ≤ place_count z
      → Parts z s (over k count new mark) (over k count r rec) (stored z new k count r t)
  parts_stored new k count r fits =
      record {
        size = length_stored z new k count r t ∙ w.size;
        front = λ i h. stored_front z new k count r t i h ∙ w.front i h;
        marks = λ i h. stored_mark z new k count r t i (omega (arith, w.size)) h ∙ over_same k count new new (mark_at t) mark i (λ j l. refl) (w.marks i h);
        bytes = λ i p h hp. stored_byte z new k count r t fits w.size i p hp
            ∙ over_same k count (λ j. r j p) (λ j. r j p) _ (λ j. rec j p) i (λ j l. refl) (w.bytes i p h hp)
            ∙ sym (over_map (λ (f : ℕ → ℕ). f p) k count r rec i);
      }

  -- ---- the same parts, the same bytes

  same_marks : {t' : List ℕ} → Parts z s mark rec t' → (j : ℕ) → j < 6 → at t (12 + j) < 256 → at t' (12 + j) < 256 → at t (12 + j) ≡ at t' (12 + j)
  same_marks {t'} w' j h low low' =
      sym (marks_byte t j h low)
      ∙ ap (λ (l : List ℕ). at l j) (packed_same 6 (mark_at t) (mark_at t') (λ k b. w.marks k b ∙ sym (w'.marks k b))) ∙ marks_byte t' j h low'

-- the marks are bytes
abbrev pub Tidy : List ℕ → Type 0
Tidy t = (j : ℕ) → j < 6 → at t (12 + j) < 256

packed_tidy : (t : List ℕ) (mark : ℕ → Bool) → ((j : ℕ) → j < 6 → at t (12 + j) ≡ at (packed 6 mark) j) → Tidy t
packed_tidy t mark e j h = rw (e j h, packed_at 6 mark j h) (number_low (λ i. mark (8 * j + i)) 8)

pub stored_tidy : (z : Sizes) (new : ℕ → Bool) (k count : ℕ) (rec : ℕ → ℕ → ℕ) (s : List ℕ) → 18 ≤ length s → Tidy (stored z new k count rec s)
stored_tidy z new k count rec s long = packed_tidy (stored z new k count rec s) _ (stored_marks z new k count rec s long)

pub parts_same : {z : Sizes} {s : List ℕ} {mark : ℕ → Bool} {rec : ℕ → ℕ → ℕ} {t t' : List ℕ} → Parts z s mark rec t → Parts z s mark rec t'
    → Tidy t → Tidy t' → t ≡ t'
unfolding byte_in
parts_same {z} {t = t} {t' = t'} w w' low low' =
    same_bytes z t t' w.size w'.size (λ i h. w.front i h ∙ sym (w'.front i h)) (λ j h. same_marks w w' j h (low j h) (low' j h))
    (λ k p h hp. w.bytes k p h hp ∙ sym (w'.bytes k p h hp))

-- a store into a whole archive makes a whole archive
pub stored_is : (layout : ℕ) (z : Sizes) (id : List ℕ) → length id ≡ 8 → (mark : ℕ → Bool) (old : ℕ → ℕ → ℕ) (new : ℕ → Bool) (k count : ℕ)
    (rec : ℕ → ℕ → ℕ) → k + count ≤ place_count z
    → stored z new k count rec (archive_of layout z id mark old) ≡ archive_of layout z id (over k count new mark) (over k count rec old)
stored_is layout z id e mark old new k count rec fits =
    let long = length_archive layout z id e mark old in
    let made : List ℕ = archive_of layout z id (over k count new mark) (over k count rec old) in
    parts_same (parts_stored (parts_archive layout z id e mark mark old old) new k count rec fits)
    (parts_archive layout z id e mark (over k count new mark) old (over k count rec old))
    (stored_tidy z new k count rec _ (omega (arith, long))) (packed_tidy made _ (archive_marks layout z id e _ _))

-- ---- an archive with the front of one that is not bad

-- the same front, the same sizes
pub front_field : (s t : List ℕ) → ((i : ℕ) → i < 12 → at t i ≡ at s i) → (from w : ℕ) → from + w ≤ 96 → field_at t from w ≡ field_at s from w
front_field s t front from w h = field_same t s 12 from w front h

pub front_sizes : (s t : List ℕ) → ((i : ℕ) → i < 12 → at t i ≡ at s i) → sizes_of t ≡ sizes_of s
unfolding sizes_of layout_of
front_sizes s t front =
    let field = front_field s t front in
    five (field 4 11 (omega arith)) (field 15 5 (omega arith)) (field 20 4 (omega arith)) (field 24 3 (omega arith))
    (rw (field 0 4 (omega arith), field 27 4 (omega arith)))

-- no mark but those of the places there are
abbrev pub Unused : (z : Sizes) (mark : ℕ → Bool) → Type 0
Unused z mark = (k : ℕ) → place_count z ≤ k → k < 48 → mark k ≡ false

module _ (s : List ℕ) {z : Sizes} (read : z ≡ sizes_of s) (good : bad_archive s ≡ false) where
  pub good_read : bad_for z s ≡ false
  good_read = rw read good

  pub good_unused : Unused z (mark_at s)
  unfolding bad_for
  good_unused k l h =
      let e : pick (leb (place_count z) k) (mark_at s k) false ≡ false = any_below_lem 48 _ (none_at _ 4 good_read) k h in
      rw (le-leb (place_count z) k l) at e

  module _ {mark : ℕ → Bool} {rec : ℕ → ℕ → ℕ} {t : List ℕ} (w : Parts z s mark rec t) (unused : Unused z mark) where
    spare : (k : ℕ) → k < 48 → pick (leb (place_count z) k) (mark_at t k) false ≡ pick (leb (place_count z) k) (mark_at s k) false
    spare k h = go (leb (place_count z) k) refl
      where
        go : (b : Bool) → leb (place_count z) k ≡ b → pick b (mark_at t k) false ≡ pick b (mark_at s k) false
        go true q =
            let l : place_count z ≤ k = leb-true (place_count z) k q in
            w.marks k h ∙ unused k l h ∙ sym (good_unused k l h)
        go false q = refl

    good_for : bad_for z t ≡ false
    unfolding bad_for layout_of
    good_for =
        let field = front_field s t w.front in
        let long : length s ≡ archive_length z = rw read (good_length s good) in
        rw (
          field 0 4 (omega arith),
          field 27 4 (omega arith),
          field 31 1 (omega arith),
          any_same 48 _ _ spare,
          w.size ∙ sym long,
        )
        good_read

    pub parts_sizes : z ≡ sizes_of t
    parts_sizes = read ∙ sym (front_sizes s t w.front)

    pub parts_good : bad_archive t ≡ false
    parts_good = rw (← parts_sizes) good_for
