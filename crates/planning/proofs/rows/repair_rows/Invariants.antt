use mathlib.Core.Path.{◌≡◌}
use lib.ListN.{replicate}
use Rattle.lists.specs.Lists.{grid}
use Rattle.archive.specs.Plan.{repair_row}
use Rattle.planning.proofs.rows.repair_rows.Given as goal

-- The loop has made the first t rows. Assumes nothing.
abbrev pub invariant-loop-t : goal.invariant-loop-t
invariant-loop-t l =
    l.out ≡ grid l.t l.z.m 0 (repair_row l.z l.records.bytes.now l.helpers l.q l.gammas) (replicate 640 0)
