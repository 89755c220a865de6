use mathlib.Core.Path.{refl, sym, ap, ◌∙◌}
use mathlib.Core.Logic.{inl}
use native.Mathlib.Omega.{arith}
use Rattle.answer.proofs.RefusalLaws.{refused, passed, differs_other}
use Rattle.sizes.specs.Lengths.{file_length}
use Rattle.archive.proofs.GoodArchiveLaws.{good_length}
use Rattle.archive.proofs.CallLaws.{read_sizes}
use Rattle.sizes.proofs.PlaceLaws.{file_low}
use Rattle.reading.proofs.read.Goals as goal

pub returns-then-bad_archive : goal.returns-then-bad_archive
returns-then-bad_archive c = (refl, inl (refused _ _ (cc)))

pub sizes_in-z-requires : goal.sizes_in-z-requires
sizes_in-z-requires c = omega (arith, good_length _ (sym c.bad_archive.ensures ∙ c.if-bad_archive.false))

pub overflow_sub-z : goal.overflow_sub-z
overflow_sub-z c = omega (arith, read_sizes _ c.sizes_in-z.ensures (cc))

pub overflow_mul-z : goal.overflow_mul-z
overflow_mul-z c = omega (arith, file_low _ (read_sizes _ c.sizes_in-z.ensures (cc)))

pub returns-then-file-z : goal.returns-then-file-z
returns-then-file-z c =
    let length-read = ap file_length c.sizes_in-z.ensures in
    (refl, inl (passed _ _ (cc) ∙ refused _ _ (differs_other (λ e. c.if-file-z.true (e ∙ sym length-read)))))

pub read_file-requires : goal.read_file-requires
read_file-requires c = (cc, c.if-file-z.false ∙ ap file_length c.sizes_in-z.ensures)
