use Prim.Native.Nat.{◌+◌, ◌-◌, ◌≤◌}
use mathlib.Core.Path.{◌≡◌}
use lib.ListN.{length}
use Rattle.gathering.proofs.GatherLaws.{copied}
use Rattle.gathering.proofs.copying.copy_marks.Given as goal

-- The marks of the places before this one are the share's. Assumes nothing.
abbrev pub invariant-loop-place : goal.invariant-loop-place
invariant-loop-place l =
    (l.k ≤ l.place) × (l.place ≤ l.k + l.count) × (length l.archive ≡ length l.initial.archive) × (l.archive ≡ copied l.initial.archive l.share l.k (l.place - l.k))
