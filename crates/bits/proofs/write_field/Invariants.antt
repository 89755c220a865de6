use mathlib.Core.Path.{◌≡◌}
use Prim.Native.Nat.{◌≤◌}
use lib.ListN.{length}
use Rattle.lists.specs.Lists.{over}
use Rattle.bits.specs.Fields.{bit_of, packed, bit_at}
use Rattle.bits.proofs.write_field.Given as goal

-- The loop has written the first i bits: the bytes have these bits in the places from `from` on, and their old ones elsewhere. Assumes nothing.
abbrev pub invariant-loop-i : goal.invariant-loop-i
invariant-loop-i l =
    (l.i ≤ l.width) × (length l.s ≡ length l.initial.s) × (l.s ≡ packed (length l.initial.s) (over l.from l.i (bit_of l.width l.value) (bit_at l.initial.s)))
