use mathlib.Core.Path.{ap, ◌∙◌}
use mathlib.Core.Bool.{not}
use Prim.Native.Nat.{ℕ}
use native.Mathlib.Omega.{arith}
use Rattle.std.proofs.Common.{rules, tests}
use Rattle.std.proofs.lemmas.Iterator.{YieldsList-from_range}
use Rattle.std.proofs.lemmas.Iterator.Search.{any_from_yields_List}
use Rattle.lists.specs.Lists.{at, any_below}
use Rattle.lists.proofs.ChainLaws.{any_to}
use Rattle.archive.specs.Layout.{filled_in}
use Rattle.proving.proofs.any_named_empty.Goals as goal

pub returns : goal.returns
returns c =
    let records = c.args.records in
    let m = c.args.challenge.now in
    let empty = λ (j : ℕ). not (filled_in records.z records.bytes.now m.node (at m.places j)) in
    let n = c.count.result in
    any_from_yields_List empty _ _ _ c.any.ensures.ran (YieldsList-from_range 0 n n (cc) (omega arith)) (λ x b q k. search (rules, tests))
    ∙ any_to _ n ∙ ap (λ (k : ℕ). any_below k empty) c.count.ensures.0
