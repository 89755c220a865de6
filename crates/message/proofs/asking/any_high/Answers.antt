use mathlib.Core.Path.{◌∙◌}
use lib.Dec.{ltb}
use Rattle.std.proofs.Common.{rules, tests}
use Rattle.std.proofs.lemmas.Iterator.{YieldsList-from_slice}
use Rattle.std.proofs.lemmas.Iterator.Search.{any_from_yields_List}
use Rattle.lists.proofs.ChainLaws.{any_of_list}
use Rattle.message.proofs.asking.any_high.Goals as goal

pub returns : goal.returns
returns c =
    any_from_yields_List (ltb 7) _ _ _ c.any.ensures.ran (YieldsList-from_slice c.args.places.now cc) (λ x b q k. search (rules, tests))
    ∙ any_of_list (ltb 7) c.args.places.now
