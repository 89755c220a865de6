use mathlib.Core.Path.{◌≡◌}
use mathlib.Core.List.{[]}
use Prim.Native.Nat.{ℕ, ◌<◌, ◌≤◌}
use lib.ListN.{length, get_or, set, replicate}
use Rattle.linear.proofs.unit.Given as goal

abbrev pub invariant-loop-i : goal.invariant-loop-i
invariant-loop-i l =
    (length l.row-items ≡ 16) × ((q : ℕ) → q < l.i → get_or l.row-items q [] ≡ set (replicate 16 0) q 1)
    × ((q : ℕ) → l.i ≤ q → q < 16 → get_or l.row-items q [] ≡ replicate 16 0)
