use Prim.Native.Nat.{◌+◌, ◌-◌, ◌*◌}
use mathlib.Core.Path.{◌≡◌, sym, ◌∙◌}
use native.Mathlib.Nat.{mul-le-mul, mul-le-mul_right}
use native.Mathlib.Omega.{arith}
use lib.Seq.{length-take-le}
use Rattle.lists.proofs.PartLaws.{length_part, part_at}
use Rattle.sizes.specs.Lengths.{n_most, tags_most}
use Rattle.vector.proofs.VectorLaws.{product_keys}
use Rattle.vector.proofs.SliceLaws.{product_in_front}
use Rattle.mask.proofs.SpacedLaws.{spaced_none, spaced_more}
use Rattle.mask.proofs.rows.MaskRows.products_into.Goals as goal

pub loop-s-init : goal.loop-s-init
loop-s-init c = spaced_none _ _ _ _

pub overflow_mul-first : goal.overflow_mul-first
overflow_mul-first c = omega arith

pub product_of-requires : goal.product_of-requires
product_of-requires c =
    let first = c.loop-s.s * n_most in
    length-take-le (c.args.self.now.n - 2) c.args.row.now (omega arith)
    ∙ sym (length_part first (first + (c.args.self.now.n - 2)) c.args.vectors.now (omega arith) ∙ omega arith)

pub overflow_mul-out : goal.overflow_mul-out
overflow_mul-out c =
    let s = c.loop-s.s in
    omega (arith, mul-le-mul {n₁ = s} {m₁ = c.args.self.now.n - 1} {n₂ = tags_most} {m₂ = n_most} (omega arith) (omega arith))

pub overflow_add-out : goal.overflow_add-out
overflow_add-out c =
    let s = c.loop-s.s in
    omega (arith, mul-le-mul {n₁ = s} {m₁ = c.args.self.now.n - 1} {n₂ = tags_most} {m₂ = n_most} (omega arith) (omega arith))

pub bounds-out-s : goal.bounds-out-s
bounds-out-s c =
    let l = c.loop-s in
    omega (arith, l.auto.out, mul-le-mul_right {m = l.s + 1} {n = c.args.tags} (c.args.self.now.n - 1) (omega arith))

pub loop-s-preserved : goal.loop-s-preserved
loop-s-preserved c =
    let l = c.loop-s in
    spaced_more _ _ _ _ _ l.invariant
    (product_in_front (c.args.self.now.n - 2) c.args.row.now _ (omega arith) c.product_of.ensures
    ∙ product_keys (c.args.self.now.n - 2) _ _ _ (λ e h. part_at (l.s * n_most) (l.s * n_most + (c.args.self.now.n - 2)) c.args.vectors.now e (omega arith)))

pub returns : goal.returns
returns c =
    let s : c.loop-s.s ≡ c.args.tags = omega arith in
    rw s at c.loop-s.invariant
