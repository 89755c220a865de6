-- A stream written block by block: the state of block j, and the bytes of the blocks in a row. Assumes nothing.
use Rattle.std.proofs.Common.{◌≡◌, ℕ, ◌+◌, ◌*◌, ◌/◌, ◌%◌, ◌^◌, ◌≤◌, List, length, set, refl, ap, ◌∙◌, arith, get_or-set_same, set-set}
use borrow.Rule.Slice.PartMut.{put_mid}
use Rattle.lists.specs.Lists.{at, put}
use Rattle.lists.proofs.PutLaws.{length_put, put_block, put_same}
use Rattle.lists.proofs.SliceLaws.{put_part}
use Rattle.keystream.proofs.ChaChaLaws.{serialised_length}
use Rattle.keystream.specs.ChaCha.{add32, block_words, serialised, start, block_of}
use Rattle.keystream.specs.Draws.{byte_at}

-- the state of block j, where w is that of block 0
unfoldable pub state_at : List ℕ → ℕ → List ℕ
state_at w j = set w 12 ((at w 12 + j) % 2 ^ 32)

-- byte i of the blocks that w starts
unfoldable pub blocks_byte : List ℕ → ℕ → ℕ
blocks_byte w i = at (serialised (block_words (state_at w (i / 64)))) (i % 64)

pub state_none : (key nonce : List ℕ) {w : List ℕ} → w ≡ start key 0 nonce → w ≡ state_at w 0
unfolding state_at start
state_none key nonce e = rw e

pub state_more : (w : List ℕ) (j : ℕ) {v : List ℕ} {x : ℕ} → length w ≡ 16 → v ≡ state_at w j → x ≡ add32 (at v 12) 1 → set v 12 x ≡ state_at w (j + 1)
unfolding state_at
state_more w j {v} {x} l e h =
    let q : at v 12 ≡ (at w 12 + j) % 2 ^ 32 = ap (λ (s : List ℕ). at s 12) e ∙ get_or-set_same w 12 _ 0 (omega arith) in
    let r : add32 ((at w 12 + j) % 2 ^ 32) 1 ≡ (at w 12 + (j + 1)) % 2 ^ 32 = omega arith in
    rw (h, q, r, e) (set-set w 12 _ _)

pub block_more : (w d : List ℕ) (j : ℕ) {v b s t : List ℕ} {place n : ℕ} → 64 * (j + 1) ≤ length d → v ≡ state_at w j → b ≡ block_words v
    → s ≡ put (64 * j) 0 (blocks_byte w) d → place ≡ 64 * j → n ≡ 64 → t ≡ serialised b → put_mid place n s t ≡ put (64 * (j + 1)) 0 (blocks_byte w) d
unfolding blocks_byte
block_more w d j {v} {b} {s} {t} {place} {n} r e h g p m k =
    let size : length t ≡ 64 = rw (k, serialised_length) refl in
    let long : length s ≡ length d = ap length g ∙ length_put (64 * j) 0 (blocks_byte w) d in
    let at_end : place ≡ 0 + 64 * j = omega arith in
    put_block 64 j 0 (blocks_byte w) (at (serialised b)) d g at_end (put_part 64 place (at (serialised b)) s t m (omega arith) size (λ i l. ap (λ (x : List ℕ). at x i) k))
    (λ i l.
    let q : (64 * j + i) / 64 ≡ j = omega arith in
    let r : (64 * j + i) % 64 ≡ i = omega arith in
    rw (q, r, h, e) refl)

pub blocks_done : (key nonce d : List ℕ) (n : ℕ) {w s : List ℕ} → w ≡ start key 0 nonce → s ≡ put n 0 (blocks_byte w) d → s ≡ put n 0 (byte_at key nonce) d
unfolding blocks_byte state_at byte_at block_of start
blocks_done key nonce d n e s =
    s ∙ put_same n 0 _ _ d (λ i l. let q : 0 + i / 64 ≡ i / 64 = omega arith in rw (e, q) refl)
