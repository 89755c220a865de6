use borrow.Author.Rules.{rules}
use mathlib.Core.Path.{◌≡◌, ap, ◌∙◌}
use Prim.Native.Nat.{ℕ}
use native.Mathlib.Omega.{arith}
use lib.ListN.{length, take}
use lib.Seq.{length-take-le, get_or-take}
use Rattle.lists.specs.Lists.{at}
use Rattle.vector.specs.Vectors.{product}
use Rattle.vector.proofs.VectorLaws.{product_keys}
use Rattle.planning.proofs.thetas.seen.Goals as goal

pub returns : goal.returns
returns c =
    let m = c.args.m in
    let v = c.args.v in
    let w = at c.args.row.bytes in
    let long : length v ≡ 16 = search rules in
    c.dot.ensures ∙ ap (λ (n : ℕ). product n w (at (take m v))) (length-take-le m v (omega (arith, long, c.requires)))
    ∙ product_keys m w (at (take m v)) (at v) (λ e l. get_or-take m v e 0 l)
