use mathlib.Core.Path.{◌∙◌}
use lib.Dec.{leb}
use Rattle.std.proofs.Common.{rules, tests}
use Rattle.std.proofs.lemmas.Iterator.Search.{any_from_yields_List}
use Rattle.lists.specs.Lists.{at}
use Rattle.lists.proofs.ChainLaws.{YieldsList-from_windows, any_of_pairs}
use Rattle.message.proofs.asking.any_fall.Goals as goal

pub returns : goal.returns
returns c =
    any_from_yields_List (λ w. leb (at w 1) (at w 0)) _ _ _ c.any.ensures.ran (YieldsList-from_windows c.args.places.now (cc) (cc)) (λ x b q k. search (rules, tests))
    ∙ any_of_pairs (λ x y. leb y x) c.args.places.now
