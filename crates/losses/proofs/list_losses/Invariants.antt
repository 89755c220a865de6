use Prim.Native.Nat.{◌≤◌}
use Rattle.losses.proofs.ListLaws.{ListedSets}
use Rattle.losses.proofs.list_losses.Given as goal

-- The loop has listed what hurts among the first x sets. Assumes nothing.
abbrev pub invariant-loop-x : goal.invariant-loop-x
invariant-loop-x l = (l.x ≤ 64) × (l.records.z.nodes ≤ 6) × (l.k ≤ l.records.z.nodes) × ListedSets l.records.z l.records.bytes.now l.k l.x l.count l.sets
