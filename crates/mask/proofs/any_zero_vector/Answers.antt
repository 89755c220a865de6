use borrow.Author.Rules.{rules}
use Prim.Native.Nat.{◌-◌}
use mathlib.Core.Path.{◌∙◌}
use native.Mathlib.Omega.{arith}
use Rattle.std.proofs.Common.{tests}
use Rattle.std.proofs.lemmas.Iterator.{YieldsList-from_range}
use Rattle.std.proofs.lemmas.Iterator.Search.{any_from_yields_List}
use Rattle.lists.proofs.ChainLaws.{any_to}
use Rattle.vector.specs.Vectors.{all_zero}
use Rattle.tag.specs.KeyVector.{key_vector}
use Rattle.mask.proofs.any_zero_vector.Goals as goal

pub returns : goal.returns
unfolding all_zero
returns c =
    let a = c.args in
    any_from_yields_List (λ s. all_zero (a.n - 2) (key_vector a.tag_key a.id s)) _ _ _ c.any.ensures.ran
    (YieldsList-from_range 0 a.tags a.tags (cc) (omega arith)) (λ x b q k. search (rules, tests))
    ∙ any_to _ a.tags
