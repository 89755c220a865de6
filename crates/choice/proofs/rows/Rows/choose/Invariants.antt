use Prim.Native.Nat.{◌≤◌}
use mathlib.Core.Path.{◌≡◌}
use Rattle.choice.specs.PrivateChoice.{row_at, offered, Progress}
use Rattle.choice.proofs.rows.Rows.choose.Given as goal

-- The loop has chosen among the first k rows. Assumes nothing.
abbrev pub invariant-loop-k : goal.invariant-loop-k
invariant-loop-k g l =
    (l.k ≤ l.k-end) × (l.k-end ≡ l.self.count) × Progress l.self.m (row_at l.self) (offered l.marks) l.k l.reduced l.c
