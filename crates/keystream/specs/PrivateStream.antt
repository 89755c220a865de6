-- How `Stream` keeps its place among those bytes, and what is promised of it: a draw gives a byte beside the stream after it.
use Rattle.std.specs.Prelude.{◌≡◌, ℕ, zero, suc, ◌+◌, ◌*◌, ◌/◌, ◌%◌, ◌^◌, List, ◌==◌, slice_set}
use Rattle.lists.specs.Lists.{pick, at, tab}
use Rattle.keystream.specs.ChaCha.{add32, block_words, start}
use Rattle.keystream.specs.declared.stream.Stream.{Stream}
use Rattle.keystream.specs.declared.stream.Drawn.{Drawn}
use Rattle.keystream.specs.Draws.{byte_at}

-- 16 words as 8 numbers of 64 bits
unfoldable pub pairs_of : (ws : List ℕ) → List ℕ
pairs_of ws = tab 8 (λ i. at ws (i * 2) + 4294967296 * at ws (i * 2 + 1))

-- at the start of the block that the state `words` starts; the next block's counter is one more, modulo 2 ^ 32
unfoldable pub begun : (words : List ℕ) → Stream
begun words =
    record {
      at = 0;
      cur = at (pairs_of (block_words words)) 0;
      words = slice_set words 12 (add32 (at words 12) 1);
      cache = pairs_of (block_words words);
    }

-- a new stream starts at counter 0
unfoldable pub fresh : (key nonce : List ℕ) → Stream
fresh key nonce = begun (start key 0 nonce)

-- the stream at the next place of its block: 0 begins the next block, a multiple of 8 the next number
unfoldable pub moved_to : (i : ℕ) (s : Stream) → Stream
moved_to i s =
    pick (i % 8 == 0)
    (pick (i == 0)
    (begun s.words)
    (record { at = i; cur = at s.cache (i / 8); words = s.words; cache = s.cache }))
    (record { at = i; cur = s.cur / 2 ^ 8; words = s.words; cache = s.cache })

-- one draw: the byte, and the stream after it
unfoldable pub drawn : (s : Stream) → Drawn
drawn s = record { byte = s.cur % 256; stream = moved_to ((s.at % 64 + 1) % 64) s }

-- a stream after n draws
unfoldable pub after : (n : ℕ) (s : Stream) → Stream
after zero s = s
after (suc n) s = (drawn (after n s)).stream

-- ---- what is promised of it

-- zero draws leave a stream as it is, a draw counts as one more, and the i-th draw from a new stream, counted from 0, gives byte i
pub record DrawLaws : Type 0 where
  pub none : (s : Stream) → s ≡ after 0 s
  pub more : (i : ℕ) (s : Stream) → (drawn (after i s)).stream ≡ after (i + 1) s
  pub in_order : (key nonce : List ℕ) (i : ℕ) → (drawn (after i (fresh key nonce))).byte ≡ byte_at key nonce i
