-- What the door to F1 ensures.
use Rattle.std.specs.Prelude.{ℕ, ◌≡◌, List}
use Rattle.keystream.specs.declared.stream.Stream.{Stream}
use Rattle.keystream.specs.PrivateStream.{drawn, after}
use Rattle.tag.specs.KeyVector.{key_vector}

-- the draws from this stream are the key vector of tag k, element by element
abbrev pub GivesKeyVector : (tag_key id : List ℕ) (k : ℕ) (s : Stream) → Type 0
GivesKeyVector tag_key id k s = (i : ℕ) → (drawn (after i s)).byte ≡ key_vector tag_key id k i
