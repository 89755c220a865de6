use Prim.Native.Nat.{ℕ}
use borrow.Author.Rules.{rules}
use mathlib.Core.Path.{refl}
use mathlib.Core.Bool.{Bool}
use Rattle.lists.specs.Lists.{at}
use Rattle.lists.proofs.SliceLaws.{put_whole}
use Rattle.lists.proofs.RangeLaws.{array_tab}
use Rattle.bits.specs.Fields.{packed}
use Rattle.archive.proofs.MarkLaws.{new_marks, marks_written}
use Rattle.archive.proofs.marks.set_marks.Goals as goal

pub returns : goal.returns
returns c =
    let a = c.args in
    let made = c.from_fn-marks.ensures.items in
    let new : ℕ → Bool = new_marks a.s.now a.k a.count a.v in
    marks_written new a.s.now (array_tab _ _ (at (packed 6 new)) 6 (λ j y q l called. search rules) made)
    (put_whole 6 12 c.from_fn-marks.result a.s.now refl c.requires.1 made.long c.copy_from_slice.ensures.after)
