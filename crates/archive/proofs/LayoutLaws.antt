-- An archive is read back as it was written. Assumes nothing.
use Prim.Native.Nat.{ℕ, ◌+◌, ◌-◌, ◌*◌, ◌/◌, ◌%◌, ◌<◌, ◌≤◌}
use mathlib.Core.Path.{◌≡◌, refl, sym, ap, ◌∙◌}
use mathlib.Core.Bool.{Bool, true, false}
use mathlib.Core.List.{List, [], ◌∷◌, ◌++◌, append_assoc}
use mathlib.Core.Logic.{⊎_elim}
use native.Mathlib.Nat.{div-add-mod', mod-lt, div-lt_iff_lt-mul}
use native.Mathlib.Omega.{arith}
use lib.Dec.{eqb, leb}
use lib.ListN.{length, take, length-append, get_or-append}
use lib.Seq.{ext_get_or, take_at, drop_at}
use borrow.Author.Tests.{leb-true, eqb-true, eq-eqb}
use Rattle.lists.specs.Lists.{pick, at, flat, any_of}
use Rattle.lists.proofs.TabLaws.{order}
use Rattle.lists.proofs.PutLaws.{skip, row_some, length_flat, flat_at, flat_same}
use Rattle.lists.proofs.AnyLaws.{any_none}
use Rattle.answer.specs.Refusals.{differs}
use Rattle.answer.proofs.RefusalLaws.{same, differs_same}
use Rattle.bits.specs.Fields.{◌wide◌, widths, pack, packed, bit_at, field_at}
use Rattle.bits.proofs.PackLaws.{packed_length, packed_bit, packed_same, pack_length, pack_field}
use Rattle.bits.proofs.AppendLaws.{bit_front, field_front, bit_behind}
use Rattle.sizes.specs.declared.Sizes.{Sizes}
use Rattle.sizes.specs.Lengths.{place_count, record_length, archive_length, record_start}
use Rattle.archive.specs.Layout.{layout_outside, tag_field, size_fields, archive_of, layout_of, sizes_of, id_of, mark_at, byte_in, bad_for, bad_archive}
use Rattle.sizes.proofs.SizeLaws.{Ranged, not_sizes_outside}

pub five : {z z' : Sizes} → z.n ≡ z'.n → z.m ≡ z'.m → z.places ≡ z'.places → z.nodes ≡ z'.nodes → z.tags ≡ z'.tags → z ≡ z'
five a b c d e i = record { n = a i; m = b i; places = c i; nodes = d i; tags = e i }

-- ---- the layout

-- in range, it is 1 or 2
layout_low : (layout tags : ℕ) → layout_outside layout tags ≡ false → layout ≤ 2
unfolding layout_outside
layout_low layout tags e = go (eqb layout 1) refl e
  where
    go : (t : Bool) → eqb layout 1 ≡ t → pick t (differs tags 1) (differs layout 2) ≡ false → layout ≤ 2
    go true q e = omega (arith, eqb-true layout 1 q)
    go false q e = omega (arith, same layout 2 e)

-- what its header says of the tags
field_low : (layout tags : ℕ) → tag_field layout tags ≤ tags
unfolding tag_field
field_low layout tags = go (eqb layout 1)
  where
    go : (t : Bool) → pick t 0 tags ≤ tags
    go true = omega arith
    go false = omega arith

-- and what is read of that
tags_back : (layout tags : ℕ) → layout_outside layout tags ≡ false → pick (eqb layout 1) 1 (tag_field layout tags) ≡ tags
unfolding layout_outside tag_field
tags_back layout tags e = go (eqb layout 1) e
  where
    go : (t : Bool) → pick t (differs tags 1) (differs layout 2) ≡ false → pick t 1 (pick t 0 tags) ≡ tags
    go true e = sym (same tags 1 e)
    go false e = refl

pub sizes_length : (layout : ℕ) (z : Sizes) → length (pack (size_fields layout z)) ≡ 4
unfolding widths
sizes_length layout z = pack_length (size_fields layout z)

module _ (layout : ℕ) (z : Sizes) (id : List ℕ) (e : length id ≡ 8) (mark : ℕ → Bool) (rec : ℕ → ℕ → ℕ) where
  abbrev s : List ℕ
  s = archive_of layout z id mark rec

  abbrev first : List ℕ
  first = pack (size_fields layout z)

  abbrev body : List ℕ
  body = flat (place_count z) (record_length z) rec

  pub length_archive : length s ≡ archive_length z
  unfolding archive_of
  length_archive = simp (length-append, sizes_length, packed_length, length_flat, e) (omega arith)

  -- ---- bytes

  pub archive_front : (i : ℕ) → i < 12 → at s i ≡ at (first ++ id) i
  unfolding archive_of
  archive_front i h =
      ap (λ (l : List ℕ). at l i) (sym (append_assoc first id (packed 6 mark ++ body)))
      ∙ get_or-append (first ++ id) (packed 6 mark ++ body) 0 i (rw (length-append first id, e, sizes_length layout z) h)

  pub archive_marks : (j : ℕ) → j < 6 → at s (12 + j) ≡ at (packed 6 mark) j
  unfolding archive_of
  archive_marks j h =
      ap (at s) {x = 12 + j} {y = 4 + (8 + j)} (omega arith)
      ∙ skip first (id ++ (packed 6 mark ++ body)) 4 (8 + j) (sizes_length layout z) ∙ skip id (packed 6 mark ++ body) 8 j e
      ∙ get_or-append (packed 6 mark) body 0 j (rw packed_length h)

  pub archive_byte : (k p : ℕ) → k < place_count z → p < record_length z → at s (record_start z k + p) ≡ rec k p
  unfolding archive_of
  archive_byte k p h hp =
      let i : ℕ = k * record_length z + p in
      ap (at s) {x = record_start z k + p} {y = 4 + (8 + (6 + i))} (omega arith)
      ∙ skip first (id ++ (packed 6 mark ++ body)) 4 (8 + (6 + i)) (sizes_length layout z) ∙ skip id (packed 6 mark ++ body) 8 (6 + i) e
      ∙ skip (packed 6 mark) body 6 i (packed_length 6 mark) ∙ flat_at (place_count z) (record_length z) rec k p h hp

  -- ---- what is read back

  pub id_back : id_of s ≡ id
  unfolding archive_of id_of
  id_back =
      ap (take 8) (drop_at first (id ++ (packed 6 mark ++ body)) 4 (sizes_length layout z)) ∙ take_at id (packed 6 mark ++ body) 8 e

  pub byte_back : (k p : ℕ) → k < place_count z → p < record_length z → byte_in z s k p ≡ rec k p
  unfolding byte_in
  byte_back k p h hp = archive_byte k p h hp

  pub mark_back : (k : ℕ) → k < 48 → mark_at s k ≡ mark k
  unfolding mark_at archive_of
  mark_back k h =
      ap (bit_at s) {x = 96 + k} {y = 8 * 4 + (8 * 8 + k)} (omega arith)
      ∙ bit_behind first (id ++ (packed 6 mark ++ body)) 4 (8 * 8 + k) (sizes_length layout z) ∙ bit_behind id (packed 6 mark ++ body) 8 k e
      ∙ bit_front (packed 6 mark) body k (rw packed_length (omega arith)) ∙ packed_bit 6 mark k (omega arith)

  -- a field of the first four bytes
  sized : (from w : ℕ) → from + w ≤ 32 → field_at s from w ≡ field_at first from w
  unfolding archive_of
  sized from w h = field_front first (id ++ (packed 6 mark ++ body)) from w (omega (arith, sizes_length layout z))

  pub layout_back : layout_outside layout z.tags ≡ false → layout_of s ≡ layout
  unfolding layout_of widths
  layout_back l = sized 0 4 (omega arith) ∙ pack_field [] (4 wide layout) _ (omega (arith, layout_low layout z.tags l))

  field_back : Ranged z → field_at s 27 4 ≡ tag_field layout z.tags
  unfolding widths
  field_back r =
      sized 27 4 (omega arith)
      ∙ pack_field ((4 wide layout) ∷ (11 wide z.n) ∷ (5 wide z.m) ∷ (4 wide z.places) ∷ (3 wide z.nodes) ∷ []) (4 wide tag_field layout z.tags) _
      (omega (arith, field_low layout z.tags, r.tags_high))

  spare_back : field_at s 31 1 ≡ 0
  unfolding widths
  spare_back =
      sized 31 1 (omega arith)
      ∙ pack_field
      ((4 wide layout) ∷ (11 wide z.n) ∷ (5 wide z.m) ∷ (4 wide z.places) ∷ (3 wide z.nodes) ∷ (4 wide tag_field layout z.tags) ∷ [])
      (1 wide 0) [] (omega arith)

  pub sizes_back : layout_outside layout z.tags ≡ false → Ranged z → sizes_of s ≡ z
  unfolding sizes_of widths
  sizes_back l r =
      five
      (sized 4 11 (omega arith) ∙ pack_field ((4 wide layout) ∷ []) (11 wide z.n) _ (omega (arith, r.n_high)))
      (sized 15 5 (omega arith) ∙ pack_field ((4 wide layout) ∷ (11 wide z.n) ∷ []) (5 wide z.m) _ (omega (arith, r.m_high)))
      (sized 20 4 (omega arith) ∙ pack_field ((4 wide layout) ∷ (11 wide z.n) ∷ (5 wide z.m) ∷ []) (4 wide z.places) _ (omega (arith, r.places_high)))
      (sized 24 3 (omega arith)
      ∙ pack_field ((4 wide layout) ∷ (11 wide z.n) ∷ (5 wide z.m) ∷ (4 wide z.places) ∷ []) (3 wide z.nodes) _ (omega (arith, r.nodes_high)))
      (rw (layout_back l, field_back r) (tags_back layout z.tags l))

  -- ---- it is not a bad archive

  unused : ((k : ℕ) → place_count z ≤ k → mark k ≡ false) → (k : ℕ) → k < 48 → pick (leb (place_count z) k) (mark_at s k) false ≡ false
  unused h k l = rw (mark_back k l) (go (leb (place_count z) k) refl)
    where
      go : (t : Bool) → leb (place_count z) k ≡ t → pick t (mark k) false ≡ false
      go true q = h k (leb-true (place_count z) k q)
      go false q = refl

  good : layout_outside layout z.tags ≡ false → Ranged z → ((k : ℕ) → place_count z ≤ k → mark k ≡ false) → bad_for z s ≡ false
  unfolding bad_for any_of
  good l r h =
      rw (
        layout_back l,
        l,
        not_sizes_outside z r,
        differs_same (field_back r),
        spare_back,
        any_none 48 (λ k. pick (leb (place_count z) k) (mark_at s k) false) (unused h),
        length_archive,
        eq-eqb (archive_length z) (archive_length z) refl,
      )

  pub good_back : layout_outside layout z.tags ≡ false → Ranged z → ((k : ℕ) → place_count z ≤ k → mark k ≡ false) → bad_archive s ≡ false
  good_back l r h = rw (sizes_back l r) (good l r h)

-- ---- two archives are equal where their parts are

-- an index past the header is that of a byte of a record
pub same_bytes : (z : Sizes) (s t : List ℕ) → length s ≡ archive_length z → length t ≡ archive_length z
    → ((i : ℕ) → i < 12 → at s i ≡ at t i)
    → ((j : ℕ) → j < 6 → at s (12 + j) ≡ at t (12 + j))
    → ((k p : ℕ) → k < place_count z → p < record_length z → at s (record_start z k + p) ≡ at t (record_start z k + p))
    → s ≡ t
same_bytes z s t ls lt front marks recs = ext_get_or 0 s t (ls ∙ sym lt) (λ i h. go i (omega arith))
  where
    go : (i : ℕ) → i < archive_length z → at s i ≡ at t i
    go i h =
        ⊎_elim (front i)
        (λ (a : 12 ≤ i).
        ⊎_elim
        (λ (b : i < 18). let q : i ≡ 12 + (i - 12) = omega arith in rw q (marks (i - 12) (omega arith)))
        (λ (b : 18 ≤ i).
        let R : ℕ = record_length z in
        let j : ℕ = i - 18 in
        let d : j / R * R + j % R ≡ j = div-add-mod' j R in
        let q : i ≡ record_start z (j / R) + j % R = omega arith in
        let l : j < place_count z * R = omega arith in
        let low : 0 < R = row_some (place_count z) R j l in
        rw q (recs (j / R) (j % R) ((div-lt_iff_lt-mul {k = R} low).1 l) (mod-lt j low)))
        (order i 18))
        (order i 12)

pub archive_same : (layout : ℕ) (z : Sizes) (id : List ℕ) (mark mark' : ℕ → Bool) (rec rec' : ℕ → ℕ → ℕ)
    → ((k : ℕ) → k < 48 → mark k ≡ mark' k)
    → ((k p : ℕ) → k < place_count z → p < record_length z → rec k p ≡ rec' k p)
    → archive_of layout z id mark rec ≡ archive_of layout z id mark' rec'
unfolding archive_of
archive_same layout z id mark mark' rec rec' hm hr =
    rw (packed_same 6 mark mark' hm, flat_same (place_count z) (record_length z) rec rec' hr)
