use mathlib.Core.Path.{◌≡◌}
use Rattle.lists.specs.Lists.{put}
use Rattle.keystream.specs.PrivateStream.{drawn, after}
use Rattle.tag.proofs.draw_into.Given as goal

abbrev pub invariant-loop-byte : goal.invariant-loop-byte
invariant-loop-byte l = (l.out ≡ put l.byte-index 0 (λ i. (drawn (after i l.initial.t)).byte) l.initial.out) × (l.t ≡ after l.byte-index l.initial.t)
