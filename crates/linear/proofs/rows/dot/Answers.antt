use borrow.Author.Rules.{rules}
use mathlib.Core.Path.{◌≡◌, ap, ◌∙◌}
use Prim.Native.Nat.{ℕ}
use native.Mathlib.Omega.{arith}
use lib.ListN.{length, take}
use lib.Seq.{length-take-le, get_or-take}
use Rattle.lists.specs.Lists.{at}
use Rattle.vector.specs.Vectors.{product}
use Rattle.vector.proofs.VectorLaws.{product_same}
use Rattle.linear.proofs.rows.dot.Goals as goal

pub returns : goal.returns
returns c =
    let bytes = c.args.row.bytes in
    let v = c.args.vector.now in
    let n = length v in
    let long : length bytes ≡ 16 = search rules in
    let cut : length (take n bytes) ≡ n = length-take-le n bytes (omega (arith, long, c.requires)) in
    c.product_of.ensures ∙ ap (λ (k : ℕ). product k (at (take n bytes)) (at v)) cut
    ∙ product_same n (at (take n bytes)) (at bytes) (at v) (λ e l. get_or-take n bytes e 0 l)
