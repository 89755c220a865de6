use Prim.Native.Nat.{ℕ, ◌≤◌}
use mathlib.Core.Path.{◌≡◌, refl, sym}
use mathlib.Core.Bool.{Bool}
use native.Mathlib.Omega.{arith}
use borrow.Author.Rules.{rules}
use Rattle.std.proofs.iter.Serving.{serving}
use Rattle.lists.specs.Lists.{how_many}
use Rattle.lists.proofs.CountLaws.{how_many_zero, how_many_most}
use Rattle.lists.proofs.RangeLaws.{fold_may, fold_ends}
use Rattle.archive.specs.Losses.{in_set}
use Rattle.losses.proofs.SetLaws.{counted_more, nodes_counted}
use Rattle.losses.proofs.sets.size_of.Goals as goal

pub fold-requires-clause-callable : goal.fold-requires-clause-callable
fold-requires-clause-callable c =
    let test : ℕ → Bool = in_set c.args.set in
    fold_may _ _ (λ i y. y ≡ how_many i test) 8 (λ i y z q l h called. search (rules, counted_more)) _ _ refl (omega arith) (sym (how_many_zero test))
    (λ i y l h.
    let small : y ≤ 8 = omega (arith, h, how_many_most i test) in
    grind (serving, small))

pub returns : goal.returns
returns c =
    let test : ℕ → Bool = in_set c.args.set in
    nodes_counted c.args.set 8
    (fold_ends _ _ (λ i y. y ≡ how_many i test) 8 (λ i y z q l h called. search (rules, counted_more)) _ _ refl (omega arith) (sym (how_many_zero test)) _ c.fold.ensures.ran)
    refl
