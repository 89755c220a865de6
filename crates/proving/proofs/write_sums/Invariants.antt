use mathlib.Core.Path.{◌≡◌}
use Rattle.lists.specs.Lists.{put}
use Rattle.mask.specs.Masks.{mask_coefficient, mask_sum}
use Rattle.proving.proofs.write_sums.Given as goal

abbrev pub invariant-loop-s : goal.invariant-loop-s
invariant-loop-s l = l.sums ≡ put l.s 0 (mask_sum l.rows.n (mask_coefficient l.rows.key l.seed) l.auxiliary) l.initial.sums
