use Prim.Native.Nat.{◌/◌, ◌≤◌}
use mathlib.Core.Bool.{false}
use Rattle.lists.proofs.ReplaceLaws.{Replaced}
use Rattle.archive.specs.Losses.{in_set}
use Rattle.losses.proofs.without.Given as goal

-- The loop has cleared the marks of the first k places whose nodes are lost. Assumes nothing.
abbrev pub invariant-loop-k : goal.invariant-loop-k
invariant-loop-k l = (l.k ≤ l.k-end) × (l.k-end ≤ 48) × Replaced false (λ j. in_set l.set (j / l.z.places)) false l.initial.left l.k l.left
