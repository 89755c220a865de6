use Prim.Native.Nat.{ℕ, ◌<◌, ◌+◌, ◌-◌, ◌*◌}
use mathlib.Core.Path.{◌≡◌}
use Rattle.lists.specs.Lists.{at}
use Rattle.sizes.specs.Lengths.{n_most}
use Rattle.vector.specs.Vectors.{product}
use Rattle.mask.specs.Masks.{mask_row}
use Rattle.mask.proofs.rows.MaskRows.auxiliary_into.Given as goal

abbrev pub invariant-loop-i : goal.invariant-loop-i
invariant-loop-i l =
    (s j : ℕ) → s < l.tags → j < l.i → at l.out (s * (l.self.n - 1) + j) ≡ product (l.self.n - 2) (mask_row l.self.key l.self.id j) (λ e. at l.vectors (s * n_most + e))
