use Prim.Native.Nat.{ℕ, ◌<◌}
use mathlib.Core.Path.{◌≡◌}
use Rattle.keystream.specs.PrivateStream.{after}
use Rattle.tag.specs.KeyVector.{key_vector}
use Rattle.tag.specs.PrivateKeyStream.{GivesKeyVector}
use Rattle.mask.proofs.any_element.Given as goal

abbrev pub invariant-loop : goal.invariant-loop
invariant-loop l =
    (l.vector ≡ after l.counter l.initial.vector) × GivesKeyVector l.fn.tag_key l.fn.id l.s l.initial.vector × ((e : ℕ) → e < l.counter → key_vector l.fn.tag_key l.fn.id l.s e ≡ 0)
