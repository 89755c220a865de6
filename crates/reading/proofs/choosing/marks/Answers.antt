use mathlib.Core.Bool.{false}
use native.Mathlib.Omega.{arith}
use borrow.Author.Rules.{rules}
use Rattle.lists.proofs.RangeLaws.{array_at}
use Rattle.sizes.proofs.SizeLaws.{ranged}
use Rattle.sizes.proofs.PlaceLaws.{count_low}
use Rattle.archive.specs.Layout.{mark_at}
use Rattle.reading.proofs.choosing.marks.Goals as goal

pub returns : goal.returns
returns c =
    λ k h.
    array_at _ _ (mark_at c.args.archive.now) 48 (λ k y q l called. search rules) false c.from_fn.ensures.items k
    (omega (arith, h, count_low c.args.z (ranged c.args.z c.requires.0)))
