use mathlib.Core.Path.{sym, ap, ◌∙◌}
use native.Mathlib.Omega.{arith}
use Rattle.sizes.specs.Lengths.{file_length}
use Rattle.sizes.proofs.SizeLaws.{not_sizes_outside}
use Rattle.archive.proofs.GoodArchiveLaws.{good_length}
use Rattle.archive.proofs.CallLaws.{read_sizes, read_length}
use Rattle.reading.proofs.ReadingLaws.{chosen_alike}
use Rattle.reading.proofs.FileLaws.{refuses, reads}
use Rattle.reading.proofs.read_file.Goals as goal

pub sizes_in-z-requires : goal.sizes_in-z-requires
sizes_in-z-requires c = omega (arith, good_length _ c.requires.0)

pub invariant_of-records : goal.invariant_of-records
invariant_of-records c =
    let read = c.sizes_in-z.ensures in
    record {
      ranges = not_sizes_outside _ (read_sizes _ read c.requires.0);
      long = read_length _ read c.requires.0;
      all_bytes = λ i l. (c.type_inv.archive i).fits;
    }

pub marks-requires : goal.marks-requires
marks-requires c =
    (not_sizes_outside _ (read_sizes _ c.sizes_in-z.ensures c.requires.0), omega (arith, good_length _ c.requires.0))

pub eliminate-reduced-requires : goal.eliminate-reduced-requires
eliminate-reduced-requires c =
    let w = c.take-chosen.ensures in
    (w.choice.fits, λ t h. omega (arith, w.choice.below t h, w.there))

pub returns-then-reduced-z : goal.returns-then-reduced-z
returns-then-reduced-z c =
    refuses _ _ _ (chosen_alike _ _ _ _ _ c.marks.ensures c.take-chosen.ensures) _ _ c.eliminate-reduced.ensures _
    c.requires.0 c.sizes_in-z.ensures c.requires.1 c.if-reduced-z.true

pub solve-requires : goal.solve-requires
solve-requires c =
    let w = c.take-chosen.ensures in
    let r = c.eliminate-reduced.ensures in (
      λ t h. omega (arith, w.choice.below t (omega (arith, h, c.if-reduced-z.false, r.at_most_rows)), w.there),
      c.requires.1 ∙ sym (ap file_length c.sizes_in-z.ensures),
    )

pub returns : goal.returns
returns c =
    let reduced = c.eliminate-reduced.ensures in
    reads _ _ _ (chosen_alike _ _ _ _ _ c.marks.ensures c.take-chosen.ensures) _ _ reduced _
    c.requires.0 c.sizes_in-z.ensures c.requires.1 (λ i. (c.type_inv.archive i).fits)
    (omega (arith, c.if-reduced-z.false, reduced.at_most_columns)) c.solve.ensures
