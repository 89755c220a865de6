use borrow.Author.Rules.{rules}
use mathlib.Core.Path.{◌≡◌, ap, ◌∙◌}
use mathlib.Core.List.{List}
use Prim.Native.Nat.{ℕ}
use native.Mathlib.Omega.{arith}
use lib.ListN.{length}
use Rattle.lists.specs.Lists.{at}
use Rattle.vector.proofs.AddedLaws.{added_front_at}
use Rattle.linear.proofs.added_row.Goals as goal

pub returns : goal.returns
returns c =
    let long : length c.args.v ≡ 16 = search rules in
    λ j l. ap (λ (x : List ℕ). at x j) c.add_multiple.ensures ∙ added_front_at (length c.args.v) _ c.args.v j (omega (arith, long)) (omega (arith, long))
