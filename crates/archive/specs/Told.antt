-- What an archive tells of itself (SCHEME, Operations): the operation Sizes, its six numbers, and the operation Rows, the stored rows of one node
-- (the scheme: box).
use Rattle.std.specs.Prelude.{ℕ, ◌*◌, List, length, leb}
use Rattle.lists.specs.Lists.{pick, flat}
use Rattle.answer.specs.Answer.{Outcome, done}
use Rattle.answer.specs.declared.Refusal.TheVariants.{Length, BadArchive, NoSuchPlace}
use Rattle.answer.specs.Refusals.{refuse, afterwards, differs}
use Rattle.sizes.specs.declared.Sizes.{Sizes}
use Rattle.sizes.specs.Lengths.{place_number}
use Rattle.archive.specs.Layout.{sizes_of, filled_in, bad_archive}
use Rattle.archive.specs.Read.{row_in}

-- ---- Sizes

-- refuses 3; else the numbers are `layout_of` and `sizes_of`, by which every operation goes
unfoldable pub sizes_answer : (s : List ℕ) → Outcome
sizes_answer s = refuse (bad_archive s) BadArchive done

-- a number that was lent, and was `old`: the archive's `value`, or as it was
unfoldable pub size_after : (s : List ℕ) (value old : ℕ) → ℕ
size_after s value old = afterwards (sizes_answer s) old value

-- ---- Rows

-- element i of the row that a node's place holds; zeros for a place that is not marked, whatever its record holds
unfoldable pub stored_row : (z : Sizes) (s : List ℕ) (node place i : ℕ) → ℕ
stored_row z s node place i = pick (filled_in z s node place) (row_in z s (place_number z node place) i) 0

-- refuses 3, 2, 4
unfoldable pub rows_answer : (s : List ℕ) (node : ℕ) (rows : List ℕ) → Outcome
rows_answer s node rows =
    refuse (bad_archive s) BadArchive
    (refuse (differs (length rows) ((sizes_of s).places * (sizes_of s).m)) Length
    (refuse (leb (sizes_of s).nodes node) NoSuchPlace
    done))

-- place by place, as Verdict takes them
unfoldable pub rows_out : (s : List ℕ) (node : ℕ) (rows : List ℕ) → List ℕ
rows_out s node rows = afterwards (rows_answer s node rows) rows (flat (sizes_of s).places (sizes_of s).m (stored_row (sizes_of s) s node))
