-- What the archives in which both lives end tell of themselves, and their shares, computed. Assumes nothing.
use mathlib.Core.Path.{◌≡◌, refl}
use Rattle.lists.specs.Lists.{tab, over, flat, put, grid, filtered, any_of, any_below}
use Rattle.answer.specs.Answer.{done}
use Rattle.answer.specs.Refusals.{refuse, afterwards, outside}
use Rattle.bits.specs.Fields.{number, packed, bit_at, field_at}
use Rattle.sizes.specs.Sizes.{sizes_outside}
use Rattle.archive.specs.Layout.{layout_outside, tag_field, layout_of, sizes_of, mark_at, byte_in, bad_for, with_marks, stored}
use Rattle.archive.specs.Calls.{answer_for, archive_answer, effect_for, archive_after}
use Rattle.archive.specs.Gather.{other_archive, gather_answer, gather_after}
use Rattle.archive.specs.Told.{sizes_answer, stored_row, rows_answer, rows_out}
use Rattle.promise.specs.Life as L
use Rattle.promise.specs.Life.{Numbers, alone, Shared}

pub shared : Shared L.one (L.one).archive_bytes × Shared L.three (L.three).archive_bytes
unfolding sizes_answer rows_out rows_answer stored_row gather_answer gather_after other_archive flat tab filtered archive_after archive_answer effect_for answer_for refuse afterwards any_of any_below outside sizes_outside bad_for layout_outside tag_field layout_of sizes_of field_at bit_at number mark_at byte_in with_marks stored put grid packed over
shared = (
  record {
    sizes_are = (refl, refl, refl);
    rows_are = λ out e. rw e (refl, refl, refl, refl, refl, refl);
    shares_are = (refl, refl);
    whole_again = ((refl, (refl, (refl, tt))), refl);
  },
  record {
    sizes_are = (refl, refl, refl);
    rows_are = λ out e. rw e (refl, refl, refl, refl, refl, refl);
    shares_are = (refl, refl);
    whole_again = ((refl, (refl, (refl, tt))), refl);
  },
)

-- node 2, gathered into an archive that has node 1 alone
abbrev pub Joined : Numbers → Type 0
Joined w =
    (gather_answer (alone w.tags 0x30 1 w.archive_bytes) (alone w.tags 0x0c 2 w.archive_bytes) 2 ≡ done)
    × (gather_after (alone w.tags 0x30 1 w.archive_bytes) (alone w.tags 0x0c 2 w.archive_bytes) 2 ≡ w.archive_bytes)

pub joined : Joined L.one × Joined L.three
unfolding gather_answer gather_after other_archive tab refuse afterwards any_of any_below outside sizes_outside bad_for layout_outside tag_field layout_of sizes_of field_at bit_at number mark_at byte_in with_marks stored put grid packed over
joined = ((refl, refl), (refl, refl))
