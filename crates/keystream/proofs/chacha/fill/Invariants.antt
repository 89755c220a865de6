use Rattle.std.proofs.Common.{◌≡◌, ◌*◌}
use Rattle.lists.specs.Lists.{put}
use Rattle.keystream.proofs.FillLaws.{state_at, blocks_byte}
use Rattle.keystream.proofs.chacha.fill.Given as goal

abbrev pub invariant-loop-j : goal.invariant-loop-j
invariant-loop-j l =
    (l.w ≡ state_at l.initial.w l.j) × (l.out ≡ put (64 * l.j) 0 (blocks_byte l.initial.w) l.initial.out)
