use borrow.Author.Rules.{rules}
use borrow.Author.Tests.{tests}
use mathlib.Core.Path.{◌∙◌}
use lib.Dec.{leb}
use Rattle.std.proofs.lemmas.Iterator.{YieldsList-from_slice}
use Rattle.std.proofs.lemmas.Iterator.Search.{any_from_yields_List}
use Rattle.lists.proofs.ChainLaws.{any_of_list}
use Rattle.coding.proofs.repairing.any_missing.Goals as goal

pub returns : goal.returns
returns c =
    let a = c.args in
    any_from_yields_List (leb a.nodes) _ _ _ c.any.ensures.ran (YieldsList-from_slice a.helpers.now cc) (λ x b q k. search (rules, tests))
    ∙ any_of_list (leb a.nodes) a.helpers.now
