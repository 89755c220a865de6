use Prim.Native.Nat.{◌+◌, ◌-◌}
use mathlib.Core.Path.{◌≡◌, ◌∙◌}
use native.Mathlib.Omega.{arith}
use lib.Dec.{leb}
use Rattle.std.proofs.Common.{rules, tests}
use Rattle.std.proofs.lemmas.Iterator.{YieldsList-from_range}
use Rattle.std.proofs.lemmas.Iterator.Search.{any_from_yields_List}
use Rattle.lists.proofs.AnyLaws.{any_same}
use Rattle.lists.proofs.ChainLaws.{any_of_range}
use Rattle.message.proofs.ChallengeRuleLaws.{place_in}
use Rattle.message.proofs.asked.any_fall_in.Goals as goal

pub returns : goal.returns
returns c =
    let place = place_in c.args.message.now in
    let count = c.args.count in
    any_from_yields_List (λ j. leb (place j) (place (j - 1))) _ _ _ c.any.ensures.ran (YieldsList-from_range 1 count (count - 1) (cc) (omega arith)) (λ x b q k. search (rules, tests))
    ∙ any_of_range (λ j. leb (place j) (place (j - 1))) 1 (count - 1)
    ∙ any_same (count - 1) _ _ (λ i l.
    let here : 1 + i ≡ i + 1 = omega arith in
    let before : 1 + i - 1 ≡ i = omega arith in
    rw (before, here))
