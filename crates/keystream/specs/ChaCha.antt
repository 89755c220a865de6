-- The block function of RFC 8439, sections 2.1 to 2.3. A word is a number below 2 ^ 32, a state a list of 16 words.
use Rattle.std.specs.Prelude.{ℕ, zero, suc, ◌+◌, ◌-◌, ◌*◌, ◌/◌, ◌%◌, ◌^◌, List, [], ◌∷◌, bit_or, bit_xor, slice_index_or, slice_set}
use Rattle.lists.specs.Lists.{at, tab}
use Rattle.keystream.specs.declared.chacha.Four.{Four}

-- the sum of two words, modulo 2^32
abbrev pub add32 : (a b : ℕ) → ℕ
add32 a b = (a + b) % 2 ^ 32

-- a k-bit left rotation: the high k bits come in again below
abbrev pub rotl : (x k : ℕ) → ℕ
rotl x k = bit_or ((x * 2 ^ k) % 2 ^ 32) (x / 2 ^ (32 - k))

-- 2.1, two of the four lines: a += b; d ^= a; d <<<= j; c += d; b ^= c; b <<<= k
unfoldable pub half : (j k : ℕ) (f : Four) → Four
half j k f =
    let a = add32 f.a f.b in
    let d = rotl (bit_xor f.d a) j in
    let c = add32 f.c d in
    let b = rotl (bit_xor f.b c) k in
    record { a = a; b = b; c = c; d = d }

-- 2.1, the quarter round: lines 1 and 2 rotate by 16 and 12, lines 3 and 4 by 8 and 7
unfoldable pub quarter_of : (f : Four) → Four
quarter_of f = half 8 7 (half 16 12 f)

-- 2.2, QUARTERROUND(x, y, z, w): the quarter round on four words of a state, the others left as they are
abbrev pub four_at : (x y z w : ℕ) (s : List ℕ) → Four
four_at x y z w s = record { a = at s x; b = at s y; c = at s z; d = at s w }

unfoldable pub set_four : (x y z w : ℕ) (f : Four) (s : List ℕ) → List ℕ
set_four x y z w f s = slice_set (slice_set (slice_set (slice_set s x f.a) y f.b) z f.c) w f.d

unfoldable pub quarter : (x y z w : ℕ) (s : List ℕ) → List ℕ
quarter x y z w s = set_four x y z w (quarter_of (four_at x y z w s)) s

-- 2.3, the positions of a double round: four "column" rounds, then four "diagonal" rounds
unfoldable pub quadruples : List (List ℕ)
quadruples =
    (0 ∷ 4 ∷ 8 ∷ 12 ∷ [])
    ∷ (1 ∷ 5 ∷ 9 ∷ 13 ∷ [])
    ∷ (2 ∷ 6 ∷ 10 ∷ 14 ∷ [])
    ∷ (3 ∷ 7 ∷ 11 ∷ 15 ∷ [])
    ∷ (0 ∷ 5 ∷ 10 ∷ 15 ∷ [])
    ∷ (1 ∷ 6 ∷ 11 ∷ 12 ∷ [])
    ∷ (2 ∷ 7 ∷ 8 ∷ 13 ∷ [])
    ∷ (3 ∷ 4 ∷ 9 ∷ 14 ∷ [])
    ∷ []

abbrev pub quarter_by : (q s : List ℕ) → List ℕ
quarter_by q s = quarter (at q 0) (at q 1) (at q 2) (at q 3) s

-- the first n quarter rounds of a double round; all eight are the double round
unfoldable pub quarters_to : (n : ℕ) (s : List ℕ) → List ℕ
quarters_to zero s = s
quarters_to (suc n) s = quarter_by (slice_index_or quadruples n []) (quarters_to n s)

-- n double rounds
unfoldable pub rounds : (n : ℕ) (s : List ℕ) → List ℕ
rounds zero s = s
rounds (suc n) s = quarters_to 8 (rounds n s)

-- 2.3: 20 rounds, that is ten double rounds, then "we add the original input words to the output words"
unfoldable pub block_words : (w : List ℕ) → List ℕ
block_words w = tab 16 (λ i. add32 (at (rounds 10 w) i) (at w i))

-- byte r of a number, the lowest first
abbrev pub byte_of : (w r : ℕ) → ℕ
byte_of w r = w / 2 ^ (8 * r) % 256

-- 2.3: "serialize the result by sequencing the words one-by-one in little-endian order"
unfoldable pub serialised : (ws : List ℕ) → List ℕ
serialised ws = tab 64 (λ i. byte_of (at ws (i / 4)) (i % 4))

-- the four bytes from `from` on, read as a little-endian word
unfoldable pub word_at : (b : List ℕ) (from : ℕ) → ℕ
word_at b from = at b from + 256 * at b (from + 1) + 65536 * at b (from + 2) + 16777216 * at b (from + 3)

-- 2.3, the initial state: four constants, the key's eight words, the block counter, the nonce's three words
unfoldable pub start : (key : List ℕ) (counter : ℕ) (nonce : List ℕ) → List ℕ
start key counter nonce =
    0x61707865 ∷ 0x3320646e ∷ 0x79622d32 ∷ 0x6b206574
    ∷ word_at key 0 ∷ word_at key 4 ∷ word_at key 8 ∷ word_at key 12
    ∷ word_at key 16 ∷ word_at key 20 ∷ word_at key 24 ∷ word_at key 28
    ∷ counter ∷ word_at nonce 0 ∷ word_at nonce 4 ∷ word_at nonce 8 ∷ []

-- 2.3: the block
unfoldable pub block_of : (key : List ℕ) (counter : ℕ) (nonce : List ℕ) → List ℕ
block_of key counter nonce = serialised (block_words (start key counter nonce))
