use Prim.Native.Nat.{◌+◌, ◌-◌, ◌*◌}
use mathlib.Core.Path.{◌≡◌}
use Rattle.lists.specs.Lists.{at}
use Rattle.sizes.specs.Lengths.{n_most}
use Rattle.vector.specs.Vectors.{product}
use Rattle.mask.specs.PrivateSpaced.{spaced}
use Rattle.mask.proofs.rows.MaskRows.products_into.Given as goal

abbrev pub invariant-loop-s : goal.invariant-loop-s
invariant-loop-s l =
    l.out ≡ spaced l.s (l.self.n - 1) l.i (λ k. product (l.self.n - 2) (at l.row) (λ e. at l.vectors (k * n_most + e))) l.initial.out
