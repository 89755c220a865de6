use borrow.Author.Rules.{rules}
use Prim.Native.Nat.{◌+◌, ◌-◌, ◌*◌}
use mathlib.Core.Path.{◌∙◌}
use native.Mathlib.Omega.{arith}
use Rattle.lists.specs.Lists.{at}
use Rattle.lists.proofs.PutLaws.{is_flat}
use Rattle.sizes.specs.Lengths.{n_most}
use Rattle.vector.specs.Vectors.{product}
use Rattle.vector.proofs.VectorLaws.{product_same}
use Rattle.mask.specs.Masks.{mask_row, auxiliary}
use Rattle.mask.proofs.SpacedLaws.{column_more}
use Rattle.mask.proofs.rows.MaskRows.auxiliary_into.Goals as goal

pub loop-i-init : goal.loop-i-init
loop-i-init c = λ s j l lj. absurd (omega arith)

pub products_into-requires : goal.products_into-requires
products_into-requires c =
    let p = c.requires in
    let l = c.loop-i in
    (p.0, omega arith, search rules, p.1, l.auto.out ∙ p.2)

pub loop-i-preserved : goal.loop-i-preserved
loop-i-preserved c =
    let l = c.loop-i in
    column_more c.args.tags (c.args.self.now.n - 1) l.i (λ s j. product (c.args.self.now.n - 2) (mask_row c.args.self.now.key c.args.self.now.id j) (λ e. at c.args.vectors.now (s * n_most + e))) _ l.out
    (l.auto.out ∙ c.requires.2) (omega arith) c.products_into.ensures (λ k h. product_same (c.args.self.now.n - 2) _ _ _ c.row-row.ensures) l.invariant

pub returns : goal.returns
unfolding auxiliary
returns c =
    let l = c.loop-i in
    is_flat _ _ _ _ (l.auto.out ∙ c.requires.2) (λ s j h hj. l.invariant s j h (omega arith))
