use Prim.Native.Nat.{◌/◌, ◌%◌}
use mathlib.Core.Path.{◌≡◌}
use Rattle.lists.specs.Lists.{grid}
use Rattle.archive.specs.Repair.{repair_byte}
use Rattle.coding.proofs.RepairLaws.{Blocks}
use Rattle.coding.proofs.repairing.repair_blocks.Given as goal

abbrev pub invariant-loop-t : goal.invariant-loop-t
invariant-loop-t l =
    (l.scratch ≡ grid l.t l.len 0 (λ i. repair_byte l.z l.archive l.helpers l.q l.gammas (i / l.q) (i % l.q)) l.initial.scratch) × Blocks l.z l.archive l.helpers l.q l.gammas l.initial.scratch l.len
