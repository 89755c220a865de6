-- Laws of the block function. Assumes nothing.
use Rattle.std.proofs.Common.{◌≡◌, ℕ, zero, suc, div-one, w32, ◌+◌, ◌*◌, ◌/◌, ◌%◌, ◌<◌, T, ltb, List, [], length, get_or, sym, refl, ap, ◌∙◌, add-one, arith, ltb→lt}
use lib.Bits.{bit_xor}
use borrow.Rule.Slice.PartMut.{put_mid}
use Rattle.std.specs.Int.{to_le_bytes}
use Rattle.lists.specs.Lists.{at, put}
use Rattle.lists.proofs.AllLaws.{all, all_at}
use Rattle.lists.proofs.TabLaws.{length_tab, tab_at, elements}
use Rattle.lists.proofs.PutLaws.{length_put, put_block, put_all}
use Rattle.lists.proofs.SliceLaws.{put_part}
use Rattle.keystream.specs.declared.chacha.Four.{Four}
use Rattle.keystream.specs.ChaCha.{add32, rotl, byte_of, half, quadruples, quarter_by, quarters_to, rounds, block_words, serialised, start, block_of}

-- the words that two half rounds compute, one by one
pub halves : (j k l m : ℕ) (f : Four) {a1 d1 c1 b1 a2 d2 c2 b2 : ℕ}
    → a1 ≡ add32 f.a f.b → d1 ≡ rotl (bit_xor f.d a1) j → c1 ≡ add32 f.c d1 → b1 ≡ rotl (bit_xor f.b c1) k
    → a2 ≡ add32 a1 b1 → d2 ≡ rotl (bit_xor d1 a2) l → c2 ≡ add32 c1 d2 → b2 ≡ rotl (bit_xor b1 c2) m
    → record { a = a2; b = b2; c = c2; d = d2 } ≡ half l m (half j k f)
unfolding half
halves j k l m f e1 e2 e3 e4 e5 e6 e7 e8 = cc

-- each position that the table names is one of a state's 16
low_test : T (all 8 (λ i. all 4 (λ j. ltb (at (get_or quadruples i []) j) 16)))
unfolding all quadruples
low_test = tt

pub positions_low : (i : ℕ) {table : List (List ℕ)} → table ≡ quadruples → i < 8
    → (at (get_or table i []) 0 < 16) × (at (get_or table i []) 1 < 16) × (at (get_or table i []) 2 < 16) × (at (get_or table i []) 3 < 16)
positions_low i e h =
    let low : (j : ℕ) → j < 4 → at (get_or quadruples i []) j < 16 = λ j l. ltb→lt _ _ (all_at 4 _ (all_at 8 _ low_test i h) j l) in
    rw e (low 0 (omega arith), low 1 (omega arith), low 2 (omega arith), low 3 (omega arith))

-- one quarter round more
pub quarter_more : (i : ℕ) (s : List ℕ) {table : List (List ℕ)} {t r : List ℕ} → table ≡ quadruples → t ≡ quarters_to i s
    → r ≡ quarter_by (get_or table i []) t → r ≡ quarters_to (i + 1) s
unfolding quarters_to
quarter_more i s e p h = rw add-one (cc)

-- one double round more
pub round_more : (i : ℕ) (s : List ℕ) {t r : List ℕ} → t ≡ rounds i s → r ≡ quarters_to 8 t → r ≡ rounds (i + 1) s
unfolding rounds
round_more i s p q = rw add-one (cc)

-- the library's four bytes of a word
word_bytes : (x : ℕ) {b : List ℕ} → b ≡ to_le_bytes w32 x → (i : ℕ) → i < 4 → at b i ≡ byte_of x i
word_bytes x e zero h = rw e (simp div-one)
word_bytes x e (suc zero) h = rw e refl
word_bytes x e (suc (suc zero)) h = rw e refl
word_bytes x e (suc (suc (suc zero))) h = rw e refl
word_bytes x e (suc (suc (suc (suc i)))) h = absurd (omega arith)

pub serialised_length : (w : List ℕ) → length (serialised w) ≡ 64
unfolding serialised
serialised_length w = length_tab 64 _

-- byte i of word k of the serialised words
serialised_at : (w : List ℕ) (k i : ℕ) → k < 16 → i < 4 → byte_of (at w k) i ≡ at (serialised w) (4 * k + i)
unfolding serialised
serialised_at w k i h l =
    let q : (4 * k + i) / 4 ≡ k = omega arith in
    let r : (4 * k + i) % 4 ≡ i = omega arith in
    sym (tab_at 64 _ (4 * k + i) (omega arith) ∙ rw (q, r) refl)

-- the bytes of one word more
pub word_more : (w d : List ℕ) (k : ℕ) {s b : List ℕ} {place n : ℕ} → k < 16 → length d ≡ 64 → s ≡ put (4 * k) 0 (at (serialised w)) d → place ≡ 4 * k → n ≡ 4
    → b ≡ to_le_bytes w32 (at w k) → put_mid place n s b ≡ put (4 * (k + 1)) 0 (at (serialised w)) d
word_more w d k {s} {b} {place} {n} h l e p q g =
    let size : length b ≡ 4 = rw g refl in
    let long : length s ≡ 64 = ap length e ∙ length_put (4 * k) 0 (at (serialised w)) d ∙ l in
    let at_end : place ≡ 0 + 4 * k = omega arith in
    put_block 4 k 0 (at (serialised w)) (byte_of (at w k)) d e at_end (put_part 4 place (byte_of (at w k)) s b q (omega arith) size (word_bytes (at w k) g))
    (λ i r. serialised_at w k i h r)

pub words_stored : (w d : List ℕ) {s : List ℕ} → length d ≡ 64 → s ≡ put (4 * 16) 0 (at (serialised w)) d → s ≡ serialised w
words_stored w d l e = e ∙ put_all 64 (at (serialised w)) d l ∙ elements 64 (serialised w) (serialised_length w)

-- the block
pub block_made : (key : List ℕ) (counter : ℕ) (nonce : List ℕ) {w b r : List ℕ} → w ≡ start key counter nonce → b ≡ block_words w → r ≡ serialised b
    → r ≡ block_of key counter nonce
unfolding block_of
block_made key counter nonce e h s = s ∙ ap serialised (h ∙ ap block_words e)
