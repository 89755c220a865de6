-- The turns of the code that judges a response, and what Verdict's answer tells. Assumes nothing.
use Prim.Native.Nat.{ℕ, ◌+◌, ◌-◌, ◌*◌, ◌<◌, ◌≤◌}
use mathlib.Core.Path.{◌≡◌, refl, sym, ap, ap₂, ◌∙◌}
use mathlib.Core.Bool.{Bool, true, false, not}
use mathlib.Core.List.{List}
use mathlib.Core.Logic.{⊎_elim}
use native.Mathlib.Omega.{arith}
use lib.ListN.{length, take, replicate}
use lib.Seq.{get_or-take}
use borrow.Author.Tests.{lt-ltb, le-ltb}
use Rattle.lists.specs.Lists.{pick, at, put, any_below}
use Rattle.lists.proofs.TabLaws.{order}
use Rattle.lists.proofs.PutLaws.{put_front}
use Rattle.lists.proofs.PartLaws.{part, part_at}
use Rattle.lists.proofs.AnyLaws.{none_at, any_same}
use Rattle.answer.specs.declared.Refusal.{Refusal}
use Rattle.answer.specs.declared.Refusal.TheVariants.{ProvesNothing}
use Rattle.answer.specs.Answer.{Outcome, done, Ok, Err}
use Rattle.answer.specs.Refusals.{differs}
use Rattle.answer.proofs.RefusalLaws.{accepted, same}
use Rattle.field.specs.Field.{plus}
use Rattle.sizes.specs.declared.Sizes.{Sizes}
use Rattle.sizes.specs.Sizes.{sizes_outside}
use Rattle.tag.specs.KeyVector.{key_vector}
use Rattle.vector.specs.Vectors.{product, all_zero}
use Rattle.sizes.proofs.SizeLaws.{ranged}
use Rattle.vector.proofs.SliceLaws.{product_in_part, product_keys_in_part}
use Rattle.vector.proofs.VectorLaws.{product_same, product_keys, product_split, zero_same}
use Rattle.linear.specs.declared.rows.Row.{Row}
use Rattle.linear.specs.PrivateRows.{kept}
use Rattle.linear.proofs.KeptLaws.{row_stored, kept_at}
use Rattle.sizes.specs.Lengths.{response_length, sum_at}
use Rattle.message.specs.Response.{data_in, sum_in, tag_in}
use Rattle.message.specs.Challenge.{Challenge, challenge_of, malformed_challenge, not_there}
use Rattle.audit.specs.Verdict.{verdict_for, named_row, appended, fails, accepts, judgement, verdict_of}
use Rattle.audit.specs.declared.Judgement.TheVariants.{Accepted, Rejected}
use Rattle.message.proofs.NamedLaws.{first_named}

-- ---- the product with the elements of a vector

module _ (z : Sizes) (low : 3 ≤ z.n) (row response vector : List ℕ) (s : ℕ) where
  abbrev n : ℕ
  n = z.n

  -- from where the code counts to the elements in clear and to the tags
  abbrev sums_end : ℕ
  sums_end = z.n + z.tags

  abbrev all : ℕ → ℕ
  all = appended n z.tags response (at row)

  -- the elements that are masked, those in clear, and the row
  masked_part : (e : ℕ) → e < n - 2 → all e ≡ at response (1 + e)
  unfolding appended data_in
  masked_part e h = rw (lt-ltb e n (omega arith), lt-ltb e (n - 2) h)

  clear_part : (e : ℕ) → e < 2 → all (n - 2 + e) ≡ at response (sums_end + 10 + e)
  unfolding appended data_in
  clear_part e h =
      let q : n + 10 + z.tags + (n - 2 + e - (n - 2)) ≡ sums_end + 10 + e = omega arith in
      rw (lt-ltb (n - 2 + e) n (omega arith), le-ltb (n - 2 + e) (n - 2) (omega arith), q)

  row_part : (e : ℕ) → all (n - 2 + 2 + e) ≡ at row e
  unfolding appended
  row_part e =
      let q : n - 2 + 2 + e - n ≡ e = omega arith in
      rw (le-ltb (n - 2 + 2 + e) n (omega arith), q)

  -- the products of the three parts add up to the product that Verdict compares
  pub parts : {a b d : ℕ} → length response ≡ response_length n z.tags → n + z.m ≤ length vector
      → a ≡ product (length (part 1 (n - 1) response)) (at (part 1 (n - 1) response)) (at (take (n - 2) vector))
      → b ≡ product (length (part (sums_end + 10) (sums_end + 12) response)) (at (part (sums_end + 10) (sums_end + 12) response)) (at (part (n - 2) n vector))
      → d ≡ product (length (part n (n + z.m) vector)) (at row) (at (part n (n + z.m) vector))
      → differs (plus (plus a b) d) (plus (at response (sums_end + 12 + s)) (at response (sum_at n s)))
      ≡ fails z (λ s. at vector) (at row) response s
  unfolding fails
  parts {a} {b} {d} long fits p q r =
      let whole : z.n + z.m ≡ n - 2 + 2 + z.m = omega arith in
      let first : a ≡ product (n - 2) all (at vector) =
      product_in_part 1 (n - 1) (n - 2) response _ (omega arith) (omega arith) p
      ∙ product_same (n - 2) _ all _ (λ e h. sym (masked_part e h)) ∙ product_keys (n - 2) all _ _ (λ e h. get_or-take (n - 2) vector e 0 h) in
      let second : b ≡ product 2 (λ e. all (n - 2 + e)) (λ e. at vector (n - 2 + e)) =
      product_in_part (sums_end + 10) (sums_end + 12) 2 response _ (omega arith) (omega arith) q
      ∙ product_same 2 _ _ _ (λ e h. sym (clear_part e h)) ∙ product_keys 2 _ _ _ (λ e h. part_at (n - 2) n vector e (omega arith)) in
      let third : d ≡ product z.m (λ e. all (n - 2 + 2 + e)) (λ e. at vector (n - 2 + 2 + e)) =
      product_keys_in_part n (n + z.m) z.m (at row) vector refl (omega arith) r ∙ product_same z.m _ _ _ (λ e h. sym (row_part e))
      ∙ product_keys z.m _ _ _ (λ e h.
      let w : n + e ≡ n - 2 + 2 + e = omega arith in
      ap (at vector) w) in
      let tag : at response (sums_end + 12 + s) ≡ tag_in n z.tags response s = ap (at response) (omega arith) in
      ap₂ differs
      (ap₂ plus (ap₂ plus first second ∙ sym (product_split (n - 2) 2 all (at vector))) third
      ∙ sym (product_split (n - 2 + 2) z.m all (at vector)) ∙ ap (λ (x : ℕ). product x all (at vector)) (sym whole))
      (ap (λ (x : ℕ). plus x (sum_in n response s)) tag)

-- over equal key elements and equal rows
fails_same : (z : Sizes) (v v' : ℕ → ℕ → ℕ) (u u' : ℕ → ℕ) (response : List ℕ) (s : ℕ)
    → ((e : ℕ) → e < z.n + z.m → v s e ≡ v' s e) → ((i : ℕ) → i < z.m → u i ≡ u' i) → fails z v u response s ≡ fails z v' u' response s
unfolding fails appended
fails_same z v v' u u' response s f g =
    ap (λ (k : ℕ). differs k (plus (tag_in z.n z.tags response s) (sum_in z.n response s)))
    (product_keys (z.n + z.m) _ (v s) (v' s) f ∙ product_same (z.n + z.m) _ _ (v' s) (λ e h.
    ⊎_elim
    (λ (l : e < z.n). rw (lt-ltb e z.n l))
    (λ (l : z.n ≤ e). rw (le-ltb e z.n l) (g (e - z.n) (omega arith)))
    (order e z.n)))

-- over a buffer that was filled with the key vector of the tag
pub fails_filled : (z : Sizes) (key id : List ℕ) (row : ℕ → ℕ) (response before : List ℕ) (s size : ℕ) {vector : List ℕ} {t : Bool}
    → z.n + z.m ≤ size → size ≤ length before → vector ≡ put size 0 (key_vector key id s) before
    → t ≡ fails z (λ s. at vector) row response s → t ≡ fails z (key_vector key id) row response s
fails_filled z key id row response before s size {vector} enough fits filled w =
    w ∙ fails_same z (λ s. at vector) (key_vector key id) row row response s
    (λ i l. ap (λ (x : List ℕ). at x i) filled ∙ put_front size (key_vector key id s) before i (omega arith) fits) (λ i l. refl)

-- ---- the combined row

-- the rows of the named places, as they were added to the first elements of zeros
pub row_named : (z : Sizes) (c : Challenge) (rows : List ℕ) {bytes : List ℕ} → z.m ≤ 16
    → bytes ≡ put z.m 0 (first_named c rows z.m (length c.places)) (replicate 16 0)
    → record { bytes = bytes } ≡ kept z.m (named_row z rows c)
unfolding named_row
row_named z c rows low e = row_stored z.m _ low e

-- ---- what Verdict's answer tells, and what is judged then

module _ (key id : List ℕ) (z : Sizes) (rows message response : List ℕ) where
  abbrev answer : Outcome
  answer = verdict_for z key id rows (challenge_of message) (malformed_challenge message) response

  abbrev combined : ℕ → ℕ
  combined = named_row z rows (challenge_of message)

  pub record Judged : Type 0 where
    pub sized : sizes_outside z ≡ false
    pub formed : malformed_challenge message ≡ false
    pub key_length_lem : length key ≡ 32
    pub id_length_lem : length id ≡ 8
    pub rows_length : length rows ≡ z.places * z.m
    pub response_length_lem : length response ≡ response_length z.n z.tags
    pub there : not_there z (challenge_of message) ≡ false

  pub verdict_tells : answer ≡ done → Judged
  unfolding verdict_for
  verdict_tells e =
      let one = accepted _ _ _ e in
      let two = accepted _ _ _ one.1 in
      let three = accepted _ _ _ two.1 in
      record {
        sized = one.0;
        formed = two.0;
        key_length_lem = same _ _ (none_at _ 0 three.0);
        id_length_lem = same _ _ (none_at _ 1 three.0);
        rows_length = same _ _ (none_at _ 2 three.0);
        response_length_lem = same _ _ (none_at _ 3 three.0);
        there = (accepted _ _ _ three.1).0;
      }

  -- what is found of the row as it is kept
  module _ (e : answer ≡ done) {row : Row} (named : row ≡ kept z.m combined) {t : Bool} (w : t ≡ all_zero z.m (at row.bytes)) where
    abbrev row_is : (i : ℕ) → i < z.m → at row.bytes i ≡ combined i
    row_is = kept_at z.m _ (ranged z (verdict_tells e).sized).m_high named

    zero_is : (b : Bool) → t ≡ b → all_zero z.m combined ≡ b
    zero_is b tested = sym (zero_same z.m _ _ row_is) ∙ sym w ∙ tested

    pub verdict_unproved : t ≡ true → Err ProvesNothing ≡ verdict_of key id z rows message response
    unfolding verdict_of judgement
    verdict_unproved tested = sym (ap₂ (λ (o : Outcome) (nothing : Bool). judgement o nothing (accepts z (key_vector key id) combined response)) e (zero_is true tested))

    pub verdict_judged : t ≡ false → (b : Bool) {u : Bool}
        → u ≡ any_below z.tags (fails z (key_vector key id) (at row.bytes) response) → u ≡ b
        → pick (not b) (Ok Accepted) (Ok Rejected) ≡ verdict_of key id z rows message response
    unfolding verdict_of judgement accepts
    verdict_judged tested b v found =
        let k = key_vector key id in
        let same = any_same z.tags _ _ (λ s l. fails_same z k k _ _ response s (λ i h. refl) row_is) in
        rw (e, zero_is false tested, ← same, ← v, found)

  pub verdict_refused : {r : Refusal} → answer ≡ Err r → Err r ≡ verdict_of key id z rows message response
  unfolding verdict_of judgement
  verdict_refused e = rw e
