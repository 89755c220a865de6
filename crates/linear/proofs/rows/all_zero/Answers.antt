use borrow.Author.Rules.{rules as own_rules}
use mathlib.Core.Path.{◌≡◌, ap, ◌∙◌}
use Prim.Native.Nat.{ℕ}
use native.Mathlib.Omega.{arith}
use lib.Dec.{eqb}
use lib.ListN.{length, take}
use lib.Seq.{length-take-le, get_or-take}
use Rattle.std.proofs.Common.{rules, tests}
use Rattle.std.proofs.lemmas.Iterator.{YieldsList-from_slice}
use Rattle.std.proofs.lemmas.Iterator.Search.{all_from_yields_List}
use Rattle.lists.specs.Lists.{at}
use Rattle.vector.specs.Vectors.{all_zero}
use Rattle.vector.proofs.VectorLaws.{zero_list, zero_same}
use Rattle.linear.proofs.rows.all_zero.Goals as goal

pub returns : goal.returns
returns c =
    let bytes = c.args.row.bytes in
    let m = c.args.m in
    let long : length bytes ≡ 16 = search own_rules in
    let cut : length (take m bytes) ≡ m = length-take-le m bytes (omega (arith, long, c.requires)) in
    all_from_yields_List (λ x. eqb x 0) _ _ _ c.all.ensures.ran (YieldsList-from_slice (take m bytes) cc) (λ x b q k. search (rules, tests))
    ∙ zero_list (take m bytes)
    ∙ ap (λ (n : ℕ). all_zero n (at (take m bytes))) cut
    ∙ zero_same m (at (take m bytes)) (at bytes) (λ e l. get_or-take m bytes e 0 l)
