use Prim.Native.Nat.{◌+◌, ◌<◌, ◌≤◌}
use mathlib.Core.Path.{sym, ◌∙◌}
use mathlib.Core.Logic.{⊎_elim}
use native.Mathlib.Omega.{arith}
use borrow.Author.Rules.{rules}
use borrow.Author.Tests.{tests}
use Rattle.std.proofs.lemmas.Grind.{common_steps}
use Rattle.lists.proofs.TabLaws.{order}
use Rattle.lists.proofs.OverLaws.{over_within, over_below, over_above}
use Rattle.archive.proofs.marks.mark_with.Goals as goal

pub returns-then-contains : goal.returns-then-contains
returns-then-contains c =
    let a = c.args in
    let w : (a.k ≤ a.i) × (a.i < a.k + a.count) = search (rules, tests) in
    sym (over_within a.k a.count _ _ a.i w.0 w.1)

pub returns-else-contains : goal.returns-else-contains
returns-else-contains c =
    let a = c.args in
    c.marked.ensures
    ∙ sym
    (⊎_elim (λ (l : a.i < a.k). over_below a.k a.count _ _ a.i l)
    (λ (m : a.k ≤ a.i).
    let w : a.k + a.count ≤ a.i = grind (arith, common_steps) in
    over_above a.k a.count _ _ a.i w)
    (order a.i a.k))
