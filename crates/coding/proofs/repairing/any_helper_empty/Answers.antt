use borrow.Author.Rules.{rules}
use borrow.Author.Tests.{tests, leb-false}
use Prim.Native.Nat.{ℕ, ◌<◌}
use mathlib.Core.Path.{◌≡◌, ◌∙◌}
use mathlib.Core.Bool.{Bool, not}
use Rattle.std.proofs.iter.Serving.{serving}
use Rattle.std.proofs.lemmas.List.{get_or_default}
use Rattle.std.proofs.lemmas.Iterator.{YieldsList-from_slice}
use Rattle.std.proofs.lemmas.Iterator.Adapters.{serves_from_places}
use Rattle.std.proofs.lemmas.Iterator.Search.{any_from_yields_List}
use Rattle.lists.specs.Lists.{at, any_below}
use Rattle.lists.proofs.AnyLaws.{any_below_lem}
use Rattle.lists.proofs.ChainLaws.{any_of_list}
use Rattle.archive.specs.Layout.{filled_in}
use Rattle.coding.proofs.repairing.any_helper_empty.Goals as goal

pub any-requires-clause-callable : goal.any-requires-clause-callable
any-requires-clause-callable c =
    let helpers = c.args.helpers.now in
    serves_from_places (YieldsList-from_slice helpers cc) (λ x q called. search (rules, tests)) (λ x k h is.
    let node : x.now ≡ at helpers k = is ∙ get_or_default helpers k x.now 0 h in
    let low : x.now < c.args.z.nodes = rw node (leb-false _ _ (any_below_lem _ _ c.requires.2 k h)) in
    grind (serving, low))

pub returns : goal.returns
returns c =
    let a = c.args in
    let empty : ℕ → Bool = λ node. any_below a.z.places (λ l. not (filled_in a.z a.archive.now node l)) in
    any_from_yields_List empty _ _ _ c.any.ensures.ran (YieldsList-from_slice a.helpers.now cc) (λ x b q k. search (rules, tests))
    ∙ any_of_list empty a.helpers.now
