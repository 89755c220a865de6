use mathlib.Core.Path.{sym, ap, ◌∙◌}
use native.Mathlib.Omega.{arith}
use Rattle.answer.proofs.RefusalLaws.{refused, passed}
use Rattle.sizes.specs.declared.Sizes.{Sizes}
use Rattle.archive.specs.Layout.{layout_of}
use Rattle.archive.specs.Told.{sizes_answer}
use Rattle.archive.proofs.GoodArchiveLaws.{good_length}
use Rattle.gathering.proofs.RowsLaws.{size_kept, size_told}
use Rattle.gathering.proofs.telling.sizes.Goals as goal

pub returns-then-bad_archive : goal.returns-then-bad_archive
unfolding sizes_answer
returns-then-bad_archive c =
    let e = sym c.bad_archive.ensures ∙ c.if-bad_archive.true in
    record {
      answer = sym (refused _ _ e);
      layout = size_kept _ _ _ e;
      n = size_kept _ _ _ e;
      m = size_kept _ _ _ e;
      places = size_kept _ _ _ e;
      nodes = size_kept _ _ _ e;
      tags = size_kept _ _ _ e;
    }

pub sizes_in-z-requires : goal.sizes_in-z-requires
sizes_in-z-requires c = omega (arith, good_length _ (sym c.bad_archive.ensures ∙ c.if-bad_archive.false))

pub read_field-requires : goal.read_field-requires
read_field-requires c = (omega arith, omega (arith, good_length _ (sym c.bad_archive.ensures ∙ c.if-bad_archive.false)))

pub returns : goal.returns
unfolding sizes_answer layout_of
returns c =
    let good = sym c.bad_archive.ensures ∙ c.if-bad_archive.false in
    let read = c.sizes_in-z.ensures in record {
      answer = sym (passed _ _ good);
      layout = size_told _ _ _ good c.read_field.ensures;
      n = size_told _ _ _ good (ap (λ (z : Sizes). z.n) read);
      m = size_told _ _ _ good (ap (λ (z : Sizes). z.m) read);
      places = size_told _ _ _ good (ap (λ (z : Sizes). z.places) read);
      nodes = size_told _ _ _ good (ap (λ (z : Sizes). z.nodes) read);
      tags = size_told _ _ _ good (ap (λ (z : Sizes). z.tags) read);
    }
