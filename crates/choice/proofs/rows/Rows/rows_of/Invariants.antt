use Prim.Native.Nat.{ℕ, ◌<◌, ◌≤◌}
use mathlib.Core.Path.{◌≡◌}
use lib.ListN.{length}
use Rattle.lists.specs.Lists.{at}
use Rattle.linear.specs.PrivateElimination.{cells}
use Rattle.choice.specs.PrivateChoice.{row_at}
use Rattle.choice.proofs.rows.Rows.rows_of.Given as goal

-- The loop has stored the rows of the first t numbers. Assumes nothing.
abbrev pub invariant-loop-t : goal.invariant-loop-t
invariant-loop-t l =
    (l.t ≤ l.count) × (length l.out ≡ 16) × ((q : ℕ) → q < l.t → (i : ℕ) → i < l.self.m → cells l.out q i ≡ row_at l.self (at l.numbers q) i)
