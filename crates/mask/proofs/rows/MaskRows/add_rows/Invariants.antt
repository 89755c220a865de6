use Prim.Native.Nat.{◌-◌}
use mathlib.Core.Path.{◌≡◌}
use Rattle.keystream.specs.PrivateStream.{drawn, after}
use Rattle.vector.specs.Vectors.{mixed, added}
use Rattle.mask.specs.Masks.{mask_row}
use Rattle.mask.proofs.rows.MaskRows.add_rows.Given as goal

abbrev pub invariant-loop-i : goal.invariant-loop-i
invariant-loop-i l =
    (l.s ≡ after l.i l.initial.s)
    × (l.out ≡ added (l.self.n - 2) 0 (mixed l.i (λ j. (drawn (after j l.initial.s)).byte) (mask_row l.self.key l.self.id)) l.initial.out)
