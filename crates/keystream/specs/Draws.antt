-- The bytes of a stream of keystream (SCHEME, Keystream).
use Rattle.std.specs.Prelude.{ℕ, ◌/◌, ◌%◌, ◌^◌, List}
use Rattle.lists.specs.Lists.{at}
use Rattle.keystream.specs.ChaCha.{block_of}

-- byte i of the stream: byte i mod 64 of the block with counter (i div 64) mod 2 ^ 32
unfoldable pub byte_at : (key nonce : List ℕ) (i : ℕ) → ℕ
byte_at key nonce i = at (block_of key (i / 64 % 2 ^ 32) nonce) (i % 64)
