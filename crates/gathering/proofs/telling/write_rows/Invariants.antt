use Prim.Native.Nat.{◌≤◌}
use mathlib.Core.Path.{◌≡◌}
use lib.ListN.{length}
use Rattle.lists.specs.Lists.{grid}
use Rattle.archive.specs.Layout.{sizes_of}
use Rattle.archive.specs.Told.{stored_row}
use Rattle.gathering.proofs.telling.write_rows.Given as goal

-- The rows of the places before this one are written. Assumes nothing.
abbrev pub invariant-loop-place : goal.invariant-loop-place
invariant-loop-place l =
    (l.place ≤ l.place-end) × (length l.rows ≡ length l.initial.rows)
    × (l.rows ≡ grid l.place (sizes_of l.archive).m 0 (stored_row (sizes_of l.archive) l.archive l.node) l.initial.rows)
