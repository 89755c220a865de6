use Prim.Native.Nat.{ℕ}
use mathlib.Core.Path.{ap, ap₂, ◌∙◌}
use mathlib.Core.Bool.{◌||◌}
use native.Mathlib.Omega.{arith}
use lib.Dec.{leb}
use Rattle.std.proofs.Common.{rules, tests}
use Rattle.std.proofs.lemmas.Iterator.{YieldsList-from_range}
use Rattle.std.proofs.lemmas.Iterator.Search.{any_from_yields_List}
use Rattle.lists.specs.Lists.{at, any_below}
use Rattle.lists.proofs.AnyLaws.{any_of_lem}
use Rattle.lists.proofs.ChainLaws.{any_to}
use Rattle.message.proofs.asked.ChallengeMessage.not_there.Goals as goal

pub returns : goal.returns
returns c =
    let place = at c.args.self.now.places in
    let past = λ (j : ℕ). leb c.args.z.places (place j) in
    let n = c.count.result in
    let any_past = any_from_yields_List past _ _ _ c.any.ensures.ran (YieldsList-from_range 0 n n (cc) (omega arith)) (λ x b q k. search (rules, tests)) in
    ap₂ ◌||◌ (ap (leb _) c.node.ensures.0) (any_past ∙ any_to _ n ∙ ap (λ (k : ℕ). any_below k past) c.count.ensures.0) ∙ any_of_lem _ _
