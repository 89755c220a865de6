-- Honest audits on the image of a table, and responses that differ from Prove's. Assumes nothing.
use Prim.Native.Nat.{ℕ, ◌+◌, ◌-◌, ◌*◌, ◌<◌, ◌≤◌}
use mathlib.Core.Path.{◌≡◌, refl, sym, ap, ap₂, ◌∙◌}
use mathlib.Core.Bool.{Bool, true, false, not}
use mathlib.Core.List.{List}
use mathlib.Core.Logic.{⊎_elim, ◌↔◌}
use native.Mathlib.Omega.{arith}
use lib.Bits.{xor_zero_r}
use lib.Dec.{ltb, leb}
use lib.ListN.{length}
use borrow.Author.Tests.{lt-ltb, le-ltb, lt-leb, eq-eqb}
use Rattle.lists.specs.Lists.{pick, at, any_of}
use Rattle.lists.proofs.TabLaws.{order}
use Rattle.lists.proofs.PutLaws.{length_flat, flat_at}
use Rattle.lists.proofs.AnyLaws.{any_none}
use Rattle.answer.specs.Answer.{Answer, done, Ok, Err}
use Rattle.answer.specs.declared.Refusal.TheVariants.{ProvesNothing}
use Rattle.answer.specs.Refusals.{refuse, afterwards}
use Rattle.field.specs.Field.{plus}
use Rattle.vector.specs.Vectors.{product, all_zero}
use Rattle.tag.specs.KeyVector.{with_tags, key_vector}
use Rattle.vector.proofs.VectorLaws.{mixed_mixed, mixed_vectors, mixed_lt, product_same, product_left, product_cut, zero_all, zero_not}
use Rattle.tag.proofs.TagLaws.{tags_combine}
use Rattle.mask.specs.Masks.{mask_row, mask_coefficient, auxiliary, mask, mask_sum}
use Rattle.sizes.specs.Lengths.{response_length, block_length, record_length, auxiliary_length}
use Rattle.message.specs.Response.{response_head, sum_in, tag_in}
use Rattle.mask.proofs.MaskLaws.{length_auxiliary, mask_sum_lem}
use Rattle.message.proofs.ResponseLaws.{response_length_lem, response_first, response_sum, response_tag, response_data, response_same}
use Rattle.message.specs.Challenge.{Challenge, challenge_of, malformed_challenge}
use Rattle.audit.specs.Verdict.{verdict_for, appended, accepts, judgement, verdict_of, named_row as given_row}
use Rattle.audit.specs.declared.Judgement.{Judgement}
use Rattle.audit.specs.declared.Judgement.TheVariants.{Accepted, Rejected}
use Rattle.message.proofs.ChallengeLaws.{in_rule, challenge_back, well_formed, asked_even, asked_rule, asked_bytes}
use Rattle.audit.proofs.VerdictLaws.{accepts_all, altered}
use Rattle.archive.specs.Layout.{filled_in}
use Rattle.archive.specs.Blocks.{source, coded}
use Rattle.archive.specs.Prove.{prove_for, prove_answer, response_for, named_byte, proved_for, prove_out}
use Rattle.sizes.proofs.SizeLaws.{not_sizes_outside}
use Rattle.archive.proofs.BlockLaws.{coded_row}
use Rattle.promise.specs.Table.{Table, element}
use Rattle.promise.specs.Image.{vector, image}
use Rattle.promise.specs.Demand3.{Given, setting, given_auxiliary, Honest, message, sent, node_rows, says, named_row, Telling, Silent, named_block, expected, AuditHolds, ChangesAddUp}
use Rattle.promise.proofs.ImageLaws.{Fit, image_sizes, image_id, image_good, image_filled, image_byte, record_mixed}

-- lengths that Setup tested
pub record Keys (g : Given) : Type 0 where
  pub tag_size : length g.tag_key ≡ 32
  pub mask_size : length g.mask_key ≡ 32
  pub auxiliary_are : given_auxiliary g ≡ auxiliary g.z.n g.z.tags (vector (setting g)) (mask_row g.mask_key g.id)

module _ (g : Given) (F : Fit (setting g)) (K : Keys g) (t : Table) (h : Honest g t) where
  abbrev A : List ℕ
  A = image (setting g) t

  abbrev c : Challenge
  c = h.c

  abbrev count : ℕ
  count = length h.c.places

  abbrev n : ℕ
  n = g.z.n

  abbrev tags : ℕ
  tags = g.z.tags

  abbrev row : ℕ → ℕ
  row = named_row g t A h

  abbrev block : ℕ → ℕ
  block = named_block g t A h

  abbrev hidden : ℕ → ℕ
  hidden = mask n (mask_coefficient g.mask_key h.seed) (mask_row g.mask_key g.id)

  -- ---- the challenge

  challenge_is : challenge_of (message g t A h) ≡ h.c
  challenge_is =
      rw (asked_bytes h.c h.lent h.asked)
      (challenge_back h.c (in_rule h.c (asked_rule h.c h.lent h.asked)) (asked_even h.c h.lent h.asked) h.coefficients_bytes)

  challenge_good : malformed_challenge (message g t A h) ≡ false
  challenge_good =
      rw (asked_bytes h.c h.lent h.asked)
      (well_formed h.c (in_rule h.c (asked_rule h.c h.lent h.asked)) (asked_even h.c h.lent h.asked) h.coefficients_bytes
      (asked_rule h.c h.lent h.asked))

  -- ---- Prove

  elements_length : length (given_auxiliary g) ≡ auxiliary_length n tags
  elements_length = ap length K.auxiliary_are ∙ length_auxiliary n tags _ _

  proves : prove_answer A g.mask_key (given_auxiliary g) h.seed (message g t A h) h.out ≡ done
  unfolding prove_answer refuse prove_for any_of
  proves =
      rw (
        image_good (setting g) F t,
        challenge_good,
        challenge_is,
        image_sizes (setting g) F t,
        eq-eqb (length g.mask_key) 32 K.mask_size,
        eq-eqb (length (given_auxiliary g)) (auxiliary_length n tags) elements_length,
        eq-eqb (length h.seed) 11 h.seed_size,
        eq-eqb (length h.out) (response_length n tags) h.out_size,
        lt-leb g.z.nodes h.c.node h.node_there,
        any_none count (λ j. leb g.z.places (at h.c.places j)) (λ j l. lt-leb g.z.places _ (h.places_there j l)),
        any_none count (λ j. not (filled_in g.z A h.c.node (at h.c.places j)))
            (λ j l. ap not (image_filled (setting g) F t h.c.node _ h.node_there (h.places_there j l) ∙ h.places_filled j l)),
      )

  -- the named places' records, combined, are the source blocks with their tags, combined by the row
  named : (e : ℕ) → e < record_length g.z → named_byte g.z A h.c e ≡ with_tags (block_length g.z) (vector (setting g)) block e
  unfolding named_byte coded
  named e he =
      mixed_vectors count (at h.c.coefficients) _ _ e
      (λ j l. image_byte (setting g) F t h.c.node (at h.c.places j) e h.node_there (h.places_there j l) he
      ∙ record_mixed (setting g) F t (t h.c.node (at h.c.places j)) e)
      ∙ mixed_mixed count g.z.m (at h.c.coefficients) (λ j. element (t h.c.node (at h.c.places j))) _ e
      ∙ sym (tags_combine (block_length g.z) g.z.m row (source g.z g.file g.padding) (vector (setting g)) e)

  named_block_lem : (e : ℕ) → e < block_length g.z → named_byte g.z A h.c e ≡ block e
  unfolding with_tags
  named_block_lem e l = named e (omega arith) ∙ rw (lt-ltb e (block_length g.z) l)

  named_tag : (s : ℕ) → s < tags → named_byte g.z A h.c (block_length g.z + s) ≡ product (block_length g.z) block (vector (setting g) s)
  unfolding with_tags
  named_tag s l =
      let q : block_length g.z + s - block_length g.z ≡ s = omega arith in
      named (block_length g.z + s) (omega arith) ∙ rw (le-ltb (block_length g.z + s) (block_length g.z) (omega arith), q)

  sends : sent g t A h ≡ expected g t A h
  unfolding prove_out afterwards proved_for response_for
  sends =
      rw (proves, challenge_is, image_sizes (setting g) F t, image_id (setting g) F t)
      (response_same n tags h.c.node _ _ _ _ _ h.seed _ F.ranged.n_low (λ i l. named_block_lem i (omega arith)) named_tag)

  -- ---- Verdict

  -- the rows that the auditor hands over, combined, are the table's
  row_given : (i : ℕ) → i < g.z.m → given_row g.z (node_rows g t A h) h.c i ≡ row i
  unfolding given_row
  row_given i l =
      mixed_vectors count (at h.c.coefficients) _ _ i (λ j lj. flat_at g.z.places g.z.m _ (at h.c.places j) i (h.places_there j lj) l)

  abbrev total : ℕ → ℕ
  total = mask_sum n (mask_coefficient g.mask_key h.seed) (given_auxiliary g)

  abbrev tagged : ℕ → ℕ
  tagged s = product (block_length g.z) block (vector (setting g) s)

  -- what Verdict multiplies by the key vector: the block with the mask on its first n - 2 elements
  whole : (e : ℕ) → e < block_length g.z
      → appended n tags (expected g t A h) (given_row g.z (node_rows g t A h) h.c) e ≡ plus (block e) (pick (ltb e (n - 2)) (hidden e) 0)
  unfolding appended response_for
  whole e l =
      ⊎_elim
      (λ (a : e < n). rw (lt-ltb e n a) (response_data n tags h.c.node block tagged hidden h.seed total F.ranged.n_low h.seed_size e a))
      (λ (a : n ≤ e).
      let q : e ≡ n + (e - n) = omega arith in
      rw (le-ltb e n a, le-ltb e (n - 2) (omega arith), xor_zero_r (block e))
      (row_given (e - n) (omega arith)
      ∙ sym (ap block q ∙ coded_row g.z g.file g.padding row (e - n) (omega arith) (mixed_lt count _ _ (e - n)))))
      (order e n)

  expected_tag : (s : ℕ) → s < tags → tag_in n tags (expected g t A h) s ≡ tagged s
  unfolding response_for
  expected_tag = response_tag n tags h.c.node block tagged hidden h.seed total F.ranged.n_low h.seed_size

  expected_sum : (s : ℕ) → s < tags → sum_in n (expected g t A h) s ≡ total s
  unfolding response_for
  expected_sum = response_sum n tags h.c.node block tagged hidden h.seed total F.ranged.n_low h.seed_size

  total_is : (s : ℕ) → s < tags → product (n - 2) hidden (vector (setting g) s) ≡ total s
  total_is s l =
      sym (ap (λ (x : List ℕ). mask_sum n (mask_coefficient g.mask_key h.seed) x s) K.auxiliary_are ∙ mask_sum_lem n tags _ (vector (setting g)) _ s l)

  abbrev judged : List ℕ → Bool
  judged response = accepts g.z (key_vector g.tag_key g.id) (given_row g.z (node_rows g t A h) h.c) response

  accepted_it : judged (expected g t A h) ≡ true
  accepted_it =
      (accepts_all g.z (key_vector g.tag_key g.id) (given_row g.z (node_rows g t A h) h.c) (expected g t A h)).1 (λ s l.
      product_same (block_length g.z) _ _ (vector (setting g) s) whole
      ∙ product_left (block_length g.z) block _ (vector (setting g) s)
      ∙ ap₂ plus (sym (expected_tag s l))
      (product_cut (n - 2) (block_length g.z) hidden (vector (setting g) s) (omega arith) ∙ total_is s l ∙ sym (expected_sum s l)))

  -- whether Verdict finds that nothing is proved
  abbrev nothing : Bool
  nothing = all_zero g.z.m (given_row g.z (node_rows g t A h) h.c)

  telling_is : Telling g t A h → nothing ≡ false
  telling_is told = zero_not g.z.m _ told.one told.one_there (λ e. told.one_not (sym (row_given told.one told.one_there) ∙ e))

  silent_is : Silent g t A h → nothing ≡ true
  silent_is zero = zero_all g.z.m _ (λ i l. row_given i l ∙ zero i l)

  -- a response of Prove's length and first byte is refused for nothing else
  heard : {z : Bool} → nothing ≡ z → (response : List ℕ) → length response ≡ response_length n tags → at response 0 ≡ at (response_head h.c.node) 0
      → says g t A h response ≡ pick z (Err ProvesNothing) (pick (judged response) (Ok Accepted) (Ok Rejected))
  unfolding verdict_of verdict_for refuse any_of judgement
  heard found response l b =
      rw (
        challenge_good,
        challenge_is,
        not_sizes_outside g.z F.ranged,
        eq-eqb (length g.tag_key) 32 K.tag_size,
        eq-eqb (length g.id) 8 F.id_size,
        eq-eqb (length (node_rows g t A h)) (g.z.places * g.z.m) (length_flat g.z.places g.z.m _),
        eq-eqb (length response) (response_length n tags) l,
        lt-leb g.z.nodes h.c.node h.node_there,
        any_none count (λ j. leb g.z.places (at h.c.places j)) (λ j m. lt-leb g.z.places _ (h.places_there j m)),
        eq-eqb (at response 0) (at (response_head h.c.node) 0) b,
        found,
      )

  expected_length : length (expected g t A h) ≡ response_length n tags
  unfolding response_for
  expected_length = response_length_lem n tags h.c.node block tagged hidden h.seed total F.ranged.n_low h.seed_size

  expected_first : at (expected g t A h) 0 ≡ at (response_head h.c.node) 0
  unfolding response_for
  expected_first = response_first n tags h.c.node block tagged hidden h.seed total F.ranged.n_low h.seed_size

  pub audit_holds : AuditHolds g t A h
  audit_holds =
      record {
        proves = proves;
        sends = sends;
        accepts = λ told. rw sends (heard (telling_is told) (expected g t A h) expected_length expected_first ∙ ap (λ (x : Bool). pick x (Ok Accepted) (Ok Rejected)) accepted_it);
      }

  sent_length : length (sent g t A h) ≡ response_length n tags
  sent_length = ap length sends ∙ expected_length

  sent_first : at (sent g t A h) 0 ≡ at (response_head h.c.node) 0
  sent_first = ap (λ (r : List ℕ). at r 0) sends ∙ expected_first

  pub unproved_holds : Silent g t A h → (other : List ℕ) → length other ≡ length (sent g t A h) → at other 0 ≡ at (sent g t A h) 0
      → says g t A h other ≡ Err ProvesNothing
  unproved_holds zero other l b = heard (silent_is zero) other (l ∙ sent_length) (b ∙ sent_first)

  pub altered_holds : Telling g t A h → (other : List ℕ) → length other ≡ length (sent g t A h) → at other 0 ≡ at (sent g t A h) 0
      → ((says g t A h other ≡ Ok Accepted) ↔ ChangesAddUp g t A h other) × ((says g t A h other ≡ Ok Rejected) ↔ (¬ ChangesAddUp g t A h other))
  altered_holds told other l b =
      let w = altered g.z (key_vector g.tag_key g.id) (given_row g.z (node_rows g t A h) h.c) other (sent g t A h) (ap judged sends ∙ accepted_it) in
      rw (heard (telling_is told) other (l ∙ sent_length) (b ∙ sent_first)) (
        (λ e. w.0.0 (is_accepted _ e), λ d. ap (λ (x : Bool). pick x (Ok Accepted) (Ok Rejected)) (w.0.1 d)),
        (λ e. w.1.0 (is_rejected _ e), λ d. ap (λ (x : Bool). pick x (Ok Accepted) (Ok Rejected)) (w.1.1 d)),
      )
    where
      is_accepted : (x : Bool) → pick {A = Answer Judgement} x (Ok Accepted) (Ok Rejected) ≡ Ok Accepted → x ≡ true
      is_accepted true e = refl
      is_accepted false e = cc

      is_rejected : (x : Bool) → pick {A = Answer Judgement} x (Ok Accepted) (Ok Rejected) ≡ Ok Rejected → x ≡ false
      is_rejected true e = cc
      is_rejected false e = refl
