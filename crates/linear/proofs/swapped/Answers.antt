use borrow.Author.Rules.{rules}
use mathlib.Core.Path.{sym, subst}
use mathlib.Core.List.{List, []}
use Prim.Native.Nat.{ℕ}
use Rattle.linear.specs.PrivateSteps.{swap_op, Operated}
use Rattle.linear.proofs.RowStoreLaws.{swaps}
use Rattle.linear.proofs.swapped.Goals as goal

pub returns : goal.returns
returns c =
    let s = c.args in
    subst (λ (out : List (List ℕ)). Operated 16 (swap_op s.i s.j) s.a out) (sym (c.swap.ensures.by_index.3 []))
    (swaps s.a s.i s.j (search rules) (search rules) (search rules))
