use Prim.Native.Nat.{◌≤◌}
use mathlib.Core.Path.{◌≡◌}
use Rattle.field.specs.Field.{sum}
use Rattle.keystream.specs.Draws.{byte_at}
use Rattle.keystream.specs.PrivateStream.{fresh, after}
use Rattle.loops.proofs.loops_draw.Given as goal

abbrev pub invariant-loop : goal.invariant-loop
invariant-loop l =
    (l.counter ≤ l.n) × (l.s ≡ after l.counter (fresh l.key l.nonce)) × (l.total ≡ sum l.counter (byte_at l.key l.nonce))
