use mathlib.Core.Path.{◌≡◌, sym, ◌∙◌}
use mathlib.Core.Bool.{false, not}
use native.Mathlib.Omega.{arith}
use borrow.Author.Rules.{rules}
use lib.Dec.{eqb}
use lib.ListN.{length}
use Rattle.lists.specs.Lists.{at}
use Rattle.lists.proofs.RangeLaws.{array_at}
use Rattle.choice.proofs.MarkLaws.{is_not_zero}
use Rattle.choice.proofs.candidates.ArrayU848Candidates.marks.Goals as goal

pub returns : goal.returns
returns c =
    let bytes = c.args.self in
    let size : length bytes ≡ 48 = search rules in
    is_not_zero bytes _ (c.from_fn.ensures.items.long ∙ sym size)
    (λ k h. array_at _ _ (λ k. not (eqb (at bytes k) 0)) 48 (λ k y q l called. search rules) false c.from_fn.ensures.items k (omega (arith, size)))
