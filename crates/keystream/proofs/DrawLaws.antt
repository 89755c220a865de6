-- A stream gives its bytes in order. Assumes nothing.
use Rattle.std.proofs.Common.{◌≡◌, ℕ, zero, suc, ◌+◌, ◌*◌, ◌/◌, ◌%◌, ◌^◌, ◌<◌, ◌≤◌, List, set, sym, refl, ap, ◌∙◌, ⊎_elim, mod-lt, eq-zero-or-pos, eq-or-lt_of_le, div-one, add-one, arith, lit<, pow-add, eq-eqb, ne_eqb}
use native.Mathlib.Nat.{div-div-eq-div-mul}
use Rattle.lists.specs.Lists.{at}
use Rattle.lists.proofs.TabLaws.{order, tab_at}
use Rattle.keystream.specs.ChaCha.{add32, byte_of, block_words, serialised, start, block_of}
use Rattle.keystream.specs.Draws.{byte_at}
use Rattle.keystream.specs.PrivateStream.{pairs_of, begun, fresh, moved_to, drawn, after}
use Rattle.keystream.specs.declared.stream.Stream.{Stream}
use Rattle.keystream.specs.declared.stream.Drawn.{Drawn}

-- the bytes of two words that are joined to one number: the low word's, then the high word's
low_byte : (a b r : ℕ) → r < 4 → byte_of (a + 4294967296 * b) r ≡ byte_of a r
low_byte a b zero h = simp div-one (omega arith)
low_byte a b (suc zero) h = let d : (a + 4294967296 * b) / 2 ^ 8 ≡ a / 2 ^ 8 + 16777216 * b = omega arith in rw d (omega arith)
low_byte a b (suc (suc zero)) h = let d : (a + 4294967296 * b) / 2 ^ 16 ≡ a / 2 ^ 16 + 65536 * b = omega arith in rw d (omega arith)
low_byte a b (suc (suc (suc zero))) h = let d : (a + 4294967296 * b) / 2 ^ 24 ≡ a / 2 ^ 24 + 256 * b = omega arith in rw d (omega arith)
low_byte a b (suc (suc (suc (suc r)))) h = absurd (omega arith)

-- a number that has lost some bytes, and then m more
lost : (x k m : ℕ) → x / 2 ^ (8 * k) / 2 ^ (8 * m) ≡ x / 2 ^ (8 * (k + m))
lost x k m =
    let e : 8 * (k + m) ≡ 8 * k + 8 * m = omega arith in
    rw (e, pow-add 2 (8 * k) (8 * m), div-div-eq-div-mul)

high_byte : (a b r : ℕ) → a < 4294967296 → byte_of (a + 4294967296 * b) (4 + r) ≡ byte_of b r
high_byte a b r h =
    let d : (a + 4294967296 * b) / 2 ^ 32 ≡ b = omega arith in
    rw (← lost (a + 4294967296 * b) 4 r, d)

pub word_low : (w : List ℕ) (i : ℕ) → i < 16 → at (block_words w) i < 4294967296
unfolding block_words
word_low w i h = rw (tab_at _ _ i h) (mod-lt _ (lit< tt))

-- byte j of a block, read from its words and from its numbers of 64 bits
block_byte : (w : List ℕ) (j : ℕ) → j < 64 → at (serialised (block_words w)) j ≡ byte_of (at (pairs_of (block_words w)) (j / 8)) (j % 8)
unfolding serialised pairs_of
block_byte w j h =
    let k : j / 8 < 8 = omega arith in
    rw (tab_at _ _ j h, tab_at _ _ (j / 8) k)
    (⊎_elim
    (λ (p : j % 8 < 4).
    let q : j / 4 ≡ j / 8 * 2 = omega arith in
    let r : j % 4 ≡ j % 8 = omega arith in
    rw (q, r) (sym (low_byte _ _ (j % 8) p)))
    (λ (p : 4 ≤ j % 8).
    let q : j / 4 ≡ j / 8 * 2 + 1 = omega arith in
    let r : j % 8 ≡ 4 + j % 4 = omega arith in
    rw (q, r) (sym (high_byte _ _ (j % 4) (word_low w (j / 8 * 2) (omega arith)))))
    (order (j % 8) 4))

-- a stream at place r of a block: the number at hand has lost the bytes before that place
abbrev mid : List ℕ → List ℕ → ℕ → Stream
mid words cache r = record { at = r; cur = at cache (r / 8) / 2 ^ (8 * (r % 8)); words = words; cache = cache }

-- the stream after i draws from a new one
unfoldable pub stream_at : List ℕ → List ℕ → ℕ → Stream
stream_at key nonce i = mid (start key ((i / 64 + 1) % 2 ^ 32) nonce) (pairs_of (block_words (start key (i / 64 % 2 ^ 32) nonce))) (i % 64)

-- one place on within a block, and a block's first place
within : (words cache : List ℕ) (r : ℕ) → moved_to (r + 1) (mid words cache r) ≡ mid words cache (r + 1)
unfolding moved_to
within words cache r =
    let n : r + 1 ≡ 0 → ⊥ = λ (z : r + 1 ≡ 0). omega arith in
    ⊎_elim
    (λ (e : (r + 1) % 8 ≡ 0). simp (ne_eqb _ _ n, e, div-one))
    (λ (p : 0 < (r + 1) % 8).
    let m : (r + 1) % 8 ≡ 0 → ⊥ = λ (z : (r + 1) % 8 ≡ 0). omega arith in
    let q : (r + 1) / 8 ≡ r / 8 = omega arith in
    let t : (r + 1) % 8 ≡ r % 8 + 1 = omega arith in
    simp (ne_eqb _ _ m) (simp (q, t, lost (at cache (r / 8)) (r % 8) 1)))
    (eq-zero-or-pos ((r + 1) % 8))

first : (key nonce : List ℕ) (c : ℕ) → begun (start key c nonce) ≡ mid (start key (add32 c 1) nonce) (pairs_of (block_words (start key c nonce))) 0
unfolding begun start
first key nonce c = simp div-one

-- zero draws leave a stream as it is
pub after_none : (s : Stream) → s ≡ after 0 s
unfolding after
after_none s = refl

-- for a caller: what `next` ensures, of a stream after i draws
pub after_more : (i : ℕ) (s : Stream) {t : Stream} {d : Drawn} → t ≡ after i s → d ≡ drawn t
    → (d.byte ≡ (drawn (after i s)).byte) × (d.stream ≡ after (i + 1) s)
unfolding after
after_more i s p q = (ap (λ (x : Drawn). x.byte) (q ∙ ap drawn p), rw add-one (ap (λ (x : Drawn). x.stream) (q ∙ ap drawn p)))

module _ (key nonce : List ℕ) where
  fresh_is : fresh key nonce ≡ stream_at key nonce 0
  unfolding fresh stream_at
  fresh_is = first key nonce 0

  byte_is : (i : ℕ) → (drawn (stream_at key nonce i)).byte ≡ byte_at key nonce i
  unfolding stream_at drawn byte_at block_of
  byte_is i = sym (block_byte _ (i % 64) (omega arith))

  moved : (i : ℕ) → (drawn (stream_at key nonce i)).stream ≡ stream_at key nonce (i + 1)
  unfolding stream_at drawn moved_to
  moved i =
      let h : i % 64 + 1 ≤ 64 = omega arith in
      ⊎_elim
      (λ (e : i % 64 + 1 ≡ 64).
      let m : (i % 64 % 64 + 1) % 64 ≡ 0 = omega arith in
      let q : (i + 1) / 64 ≡ i / 64 + 1 = omega arith in
      let r : (i + 1) % 64 ≡ 0 = omega arith in
      let w : (i / 64 + 1 + 1) % 2 ^ 32 ≡ add32 ((i / 64 + 1) % 2 ^ 32) 1 = omega arith in
      rw (m, q, r, w) (first key nonce ((i / 64 + 1) % 2 ^ 32)))
      (λ (p : i % 64 + 1 < 64).
      let m : (i % 64 % 64 + 1) % 64 ≡ i % 64 + 1 = omega arith in
      let q : (i + 1) / 64 ≡ i / 64 = omega arith in
      let r : (i + 1) % 64 ≡ i % 64 + 1 = omega arith in
      rw (m, q, r) (within _ _ (i % 64)))
      (eq-or-lt_of_le h)

  pub after_is : (i : ℕ) → after i (fresh key nonce) ≡ stream_at key nonce i
  unfolding after
  after_is zero = fresh_is
  after_is (suc i) = ap (λ (s : Stream). (drawn s).stream) (after_is i) ∙ moved i ∙ ap (stream_at key nonce) (add-one i)

  pub draws_in_order : (i : ℕ) → (drawn (after i (fresh key nonce))).byte ≡ byte_at key nonce i
  draws_in_order i = ap (λ (s : Stream). (drawn s).byte) (after_is i) ∙ byte_is i

  -- the same of a new stream, whose bytes are known
  pub draw_at : (i : ℕ) {s : Stream} {d : Drawn} → s ≡ after i (fresh key nonce) → d ≡ drawn s → (d.byte ≡ byte_at key nonce i) × (d.stream ≡ after (i + 1) (fresh key nonce))
  draw_at i p q = let d = after_more i _ p q in (d.0 ∙ draws_in_order i, d.1)

-- the stream that `next` builds at place i: of a new block, of the same block with the next number, and with the same number
abbrev placed : ℕ → ℕ → List ℕ → List ℕ → Stream
placed i cur words cache = record { at = i; cur = cur; words = words; cache = cache }

module _ (s : Stream) (i cur : ℕ) (w c : List ℕ) where
  pub next_block : {y : ℕ} {n : List ℕ} → i % 8 ≡ 0 → i ≡ 0 → n ≡ pairs_of (block_words s.words) → y ≡ add32 (at s.words 12) 1
      → w ≡ set s.words 12 y → c ≡ n → cur ≡ at c (i / 8) → placed i cur w c ≡ moved_to i s
  unfolding moved_to begun
  next_block h a p q e f g = simp (eq-eqb _ _ h, eq-eqb _ _ a) (cc)

  pub next_number : i % 8 ≡ 0 → (i ≡ 0 → ⊥) → w ≡ s.words → c ≡ s.cache → cur ≡ at c (i / 8) → placed i cur w c ≡ moved_to i s
  unfolding moved_to
  next_number h a e f g = simp (eq-eqb _ _ h, ne_eqb _ _ a) (cc)

  pub same_number : (i % 8 ≡ 0 → ⊥) → w ≡ s.words → c ≡ s.cache → cur ≡ s.cur / 2 ^ 8 → placed i cur w c ≡ moved_to i s
  unfolding moved_to
  same_number h e f g = simp (ne_eqb _ _ h) (cc)

pub drawn_is : (s : Stream) {t : Stream} → t ≡ moved_to ((s.at % 64 + 1) % 64) s → record { byte = s.cur % 256; stream = t } ≡ drawn s
unfolding drawn
drawn_is s e = cc
