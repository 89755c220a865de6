-- The bytes of an archive (SCHEME, Archive): a whole one, what is read back, what makes one bad, and one definition of a store.
use Rattle.std.specs.Prelude.{ℕ, ◌+◌, Bool, false, List, [], ◌∷◌, ◌++◌, length, take, drop, eqb, leb}
use Rattle.lists.specs.Lists.{pick, at, flat, put, grid, over, any_of, any_below}
use Rattle.answer.specs.Refusals.{differs}
use Rattle.bits.specs.Fields.{BitField, ◌wide◌, pack, packed, bit_at, field_at}
use Rattle.sizes.specs.declared.Sizes.{Sizes}
use Rattle.sizes.specs.Sizes.{sizes_outside}
use Rattle.sizes.specs.Lengths.{place_count, record_length, archive_length, place_number, record_start, id_length}
use Rattle.sizes.specs.Lengths.{id_start, marks_start, marks_length, first_mark, mark_count}

-- ---- writing

-- a layout is 1 or 2; layout 1 has one tag
unfoldable pub layout_outside : (layout tags : ℕ) → Bool
layout_outside layout tags = pick (eqb layout 1) (differs tags 1) (differs layout 2)

-- what a header says of the number of tags: nothing in layout 1
unfoldable pub tag_field : (layout tags : ℕ) → ℕ
tag_field layout tags = pick (eqb layout 1) 0 tags

-- layout, the sizes, a spare bit: 32 bits
abbrev pub size_fields : (layout : ℕ) (z : Sizes) → List BitField
size_fields layout z =
    (4 wide layout)
    ∷ (11 wide z.n)
    ∷ (5 wide z.m)
    ∷ (4 wide z.places)
    ∷ (3 wide z.nodes)
    ∷ (4 wide tag_field layout z.tags)
    ∷ (1 wide 0)
    ∷ []

-- a whole archive: those 32 bits, the id, the fill marks, then the records; rec k p is byte p of record k
unfoldable pub archive_of : (layout : ℕ) (z : Sizes) (id : List ℕ) (mark : ℕ → Bool) (rec : ℕ → ℕ → ℕ) → List ℕ
archive_of layout z id mark rec =
    pack (size_fields layout z) ++ (id ++ (packed marks_length mark ++ flat (place_count z) (record_length z) rec))

-- ---- reading

unfoldable pub layout_of : (s : List ℕ) → ℕ
layout_of s = field_at s 0 4

-- layout 1 reads as one tag
unfoldable pub sizes_of : (s : List ℕ) → Sizes
sizes_of s =
    record {
      n = field_at s 4 11;
      m = field_at s 15 5;
      places = field_at s 20 4;
      nodes = field_at s 24 3;
      tags = pick (eqb (layout_of s) 1) 1 (field_at s 27 4);
    }

unfoldable pub id_of : (s : List ℕ) → List ℕ
id_of s = take id_length (drop id_start s)

-- fill mark k, that of place number k
unfoldable pub mark_at : (s : List ℕ) (k : ℕ) → Bool
mark_at s k = bit_at s (first_mark + k)

abbrev pub filled_in : (z : Sizes) (s : List ℕ) (node place : ℕ) → Bool
filled_in z s node place = mark_at s (place_number z node place)

-- byte p of record k
unfoldable pub byte_in : (z : Sizes) (s : List ℕ) (k p : ℕ) → ℕ
byte_in z s k p = at s (record_start z k + p)

-- layout, sizes, bits that the layout leaves spare, unused marks, length; records are not looked at
unfoldable pub bad_for : (z : Sizes) (s : List ℕ) → Bool
bad_for z s =
    any_of
    (layout_outside (layout_of s) z.tags
    ∷ sizes_outside z
    ∷ differs (field_at s 27 4) (tag_field (layout_of s) z.tags)
    ∷ differs (field_at s 31 1) 0
    ∷ any_below mark_count (λ k. pick (leb (place_count z) k) (mark_at s k) false)
    ∷ differs (length s) (archive_length z)
    ∷ [])

abbrev pub bad_archive : (s : List ℕ) → Bool
bad_archive s = bad_for (sizes_of s) s

-- ---- storing

-- the archive with these marks
unfoldable pub with_marks : (mark : ℕ → Bool) (s : List ℕ) → List ℕ
with_marks mark s = put marks_length marks_start (at (packed marks_length mark)) s

-- of the `count` places from number k on, the j-th one's mark becomes mark j, and byte p of its record rec j p; all else stays
unfoldable pub stored : (z : Sizes) (mark : ℕ → Bool) (k count : ℕ) (rec : ℕ → ℕ → ℕ) (s : List ℕ) → List ℕ
stored z mark k count rec s = grid count (record_length z) (record_start z k) rec (with_marks (over k count mark (mark_at s)) s)
