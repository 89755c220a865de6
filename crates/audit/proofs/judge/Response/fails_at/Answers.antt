use Prim.Native.Nat.{◌+◌, ◌-◌}
use mathlib.Core.Path.{sym, ◌∙◌}
use native.Mathlib.Omega.{arith}
use lib.Seq.{length-take-le}
use Rattle.lists.proofs.PartLaws.{length_part}
use Rattle.sizes.proofs.SizeLaws.{ranged}
use Rattle.audit.proofs.JudgeLaws.{parts}
use Rattle.audit.proofs.judge.Response.fails_at.Goals as goal

pub overflow_sub-n : goal.overflow_sub-n
overflow_sub-n c = omega (arith, (ranged _ c.args.self.now.ranges).n_low)

pub slice_bounds-product_of-count : goal.slice_bounds-product_of-count
slice_bounds-product_of-count c = omega (arith, (ranged _ c.args.self.now.ranges).n_low)

pub slice_bounds-product_of-start : goal.slice_bounds-product_of-start
slice_bounds-product_of-start c = omega (arith, (ranged _ c.args.self.now.ranges).n_low)

pub overflow_sub-n-2 : goal.overflow_sub-n-2
overflow_sub-n-2 c = omega (arith, (ranged _ c.args.self.now.ranges).n_low)

pub slice_bounds-product_of-count-2 : goal.slice_bounds-product_of-count-2
slice_bounds-product_of-count-2 c = omega (arith, (ranged _ c.args.self.now.ranges).n_low)

pub slice_bounds-product_of-length-2 : goal.slice_bounds-product_of-length-2
slice_bounds-product_of-length-2 c =
    sym (length-take-le (c.args.self.now.z.n - 2) c.args.vector.now (omega (arith, (ranged _ c.args.self.now.ranges).n_high)))

pub product_of-masked-requires : goal.product_of-masked-requires
product_of-masked-requires c =
    let n = c.args.self.now.z.n in
    let r = ranged _ c.args.self.now.ranges in
    length_part 1 (n - 1) c.args.self.now.bytes.now (omega arith)
    ∙ omega (arith, length-take-le (n - 2) c.args.vector.now (omega arith))

pub slice_bounds-product_of-end-3 : goal.slice_bounds-product_of-end-3
slice_bounds-product_of-end-3 c = omega (arith, (ranged _ c.args.self.now.ranges).n_high)

pub product_of-clear-requires : goal.product_of-clear-requires
product_of-clear-requires c =
    let z = c.args.self.now.z in
    let r = ranged _ c.args.self.now.ranges in
    length_part (z.n + z.tags + 10) (z.n + z.tags + 12) c.args.self.now.bytes.now (omega arith)
    ∙ omega (arith, length_part (z.n - 2) z.n c.args.vector.now (omega arith))

pub overflow_add-n : goal.overflow_add-n
overflow_add-n c = let r = ranged _ c.args.self.now.ranges in omega arith

pub slice_bounds-dot-end : goal.slice_bounds-dot-end
slice_bounds-dot-end c = let r = ranged _ c.args.self.now.ranges in omega arith

pub dot-tail-requires : goal.dot-tail-requires
dot-tail-requires c =
    let z = c.args.self.now.z in
    let r = ranged _ c.args.self.now.ranges in
    omega (arith, length_part z.n (z.n + z.m) c.args.vector.now (omega arith))

pub returns : goal.returns
returns c =
    let r = ranged _ c.args.self.now.ranges in
    parts c.args.self.now.z r.n_low c.args.self.now.row.bytes c.args.self.now.bytes.now c.args.vector.now c.args.s c.args.self.now.long (omega arith)
    c.product_of-masked.ensures c.product_of-clear.ensures c.dot-tail.ensures
