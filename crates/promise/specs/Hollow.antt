-- Mistakes that a program of this kind can have, and programs that do nothing: for each, the fact about the definitions that rules it
-- out. The numbers are those of the worked values and of the life in numbers.
use Rattle.std.specs.Prelude.{ℕ, ◌+◌, ◌*◌, ◌<◌, ◌≡◌, ◌≢◌, Bool, true, false, List, [], ◌∷◌, ◌++◌, eqb, length}
use Rattle.lists.specs.Lists.{at, tab, put, how_many}
use Rattle.answer.specs.Answer.{Answer, done, Ok, Err}
use Rattle.answer.specs.declared.Refusal.TheVariants.{BadArchive, PlaceFilled, Unreadable, ZeroKeyVector, Malformed, ProvesNothing}
use Rattle.field.specs.Field.{plus}
use Rattle.vector.specs.Vectors.{product}
use Rattle.mask.specs.Masks.{mask_row}
use Rattle.mask.specs.Setup.{setup_answer}
use Rattle.message.specs.Response.{tag_in}
use Rattle.message.specs.Challenge.{challenge_for, challenge_bytes}
use Rattle.audit.specs.declared.Judgement.{Judgement}
use Rattle.audit.specs.declared.Judgement.TheVariants.{Rejected}
use Rattle.audit.specs.Verdict.{named_row, appended, accepts, verdict_of}
use Rattle.sizes.specs.Lengths.{record_length, place_number, place_count}
use Rattle.archive.specs.Layout.{sizes_of, mark_at, byte_in, with_marks}
use Rattle.archive.specs.Open.{open_out}
use Rattle.archive.specs.Calls.{Call, encode, lose, archive_answer, archive_after, archive_run}
use Rattle.archive.specs.Read.{row_in, Blind, Enough, ReadAllows}
use Rattle.archive.specs.Inventory.{inventory_answer, inventory_out}
use Rattle.archive.specs.Gather.{gather_answer, gather_after}
use Rattle.archive.specs.Told.{rows_out}
use Rattle.promise.specs.Shares.{keeping}
use Rattle.promise.specs.Worked as W
use Rattle.promise.specs.Life as L

-- an archive as Open wrote it in the life, and after its first call
abbrev pub fresh : List ℕ
fresh = open_out 1 (L.z 1) L.id (L.lent 1)

abbrev pub first_call : Call
first_call = encode 0 0 L.file L.padding L.tag_key (0x01 ∷ 0x00 ∷ [])

-- the response of the life with three tags, its masked byte changed by d, and mask sum s by x s
abbrev pub altered : (d : ℕ) (x : ℕ → ℕ) → List ℕ
altered d x =
    0x24 ∷ plus 0x2a d
    ∷ (tab 11 (λ i. 20 * i) ++ (plus 0x63 (x 0) ∷ plus 0xce (x 1) ∷ plus 0x2b (x 2) ∷ 0xc8 ∷ 0x55 ∷ 0x4d ∷ 0xfd ∷ 0x76 ∷ []))

-- what Verdict finds of it, by that life's key vectors and the rows of node 2 combined by 07 and b5
abbrev pub three_agree : List ℕ → Bool
three_agree = accepts (L.z 3) (λ s e. at (L.three).vector_bytes (s * 5 + e)) (at (0xc8 ∷ 0xde ∷ []))

-- what Verdict says of a response that is zeros behind its first byte, by the life's key and sizes, two rows and a challenge for both
-- places of node 2
abbrev pub of_zeros : (first : ℕ) (rows coefficients : List ℕ) → Answer Judgement
of_zeros first rows coefficients =
    verdict_of L.tag_key L.id (L.z 1) rows (challenge_bytes (challenge_for 2 (0 ∷ 1 ∷ []) coefficients))
    (first ∷ tab 16 (λ i. 0))

-- the archive in which the life ended
abbrev pub ended : List ℕ
ended = (L.one).archive_bytes

-- a tag key of which vector 1 alone starts with zero
abbrev pub zero_second : List ℕ
zero_second = tab 30 (λ i. 0) ++ (0x01 ∷ 0x1f ∷ [])

pub record Hollow : Type 0 where
  -- the tag compared alone, without the mask sum: an honest response would be rejected (`audits`)
  pub without_mask_sum : eqb (product 5 (appended 3 1 W.response W.combined) (W.vectors 0)) (tag_in 3 1 W.response 0) ≡ false
  -- rows that come from the box, so that it may replay old blocks: against other rows the response is rejected
  pub replayed : accepts W.z W.vectors (named_row W.z (0x01 ∷ 0x00 ∷ []) W.challenge) W.response ≡ false
  -- a Repair that combines data and copies a row: the repaired row is no helper's row (`rows`)
  pub repaired_row : tab 2 (row_in (L.z 1) (L.archive 1 1) (place_number (L.z 1) 2 0)) ≡ 0xf3 ∷ 0xfe ∷ []
  -- mask rows without their index in the nonce: two rows differ
  pub rows_differ : mask_row L.mask_key L.id 0 0 ≢ mask_row L.mask_key L.id 1 0
  -- a Verdict that says one thing of all: one response is accepted, and one is not (`audits`, `altered`)
  pub one_accepted : accepts W.z W.vectors W.combined W.response ≡ true
  pub one_rejected : accepts W.z W.vectors W.combined (W.bytes 0xbb 0x4c 0x02 0x0c 0x06) ≡ false
  -- a Verdict that looks at the first of three tags, or that one of them is enough for: changes that add up for tag 0, or for tags 1 and 2,
  -- are rejected, and only those that add up for all are not (`altered`)
  pub tag_0_adds_up : three_agree (altered 0x01 (at (0x04 ∷ 0x00 ∷ 0x00 ∷ []))) ≡ false
  pub tags_1_and_2_add_up : three_agree (altered 0x01 (at (0x00 ∷ 0x2d ∷ 0x12 ∷ []))) ≡ false
  pub all_add_up : three_agree (altered 0x01 (at (0x04 ∷ 0x2d ∷ 0x12 ∷ []))) ≡ true
  -- a Verdict that accepts where any box could answer: equal rows cancel, and so do a row and its double (`unproved`)
  pub rows_cancel : of_zeros 0x24 (0x02 ∷ 0x03 ∷ 0x02 ∷ 0x03 ∷ []) (0x05 ∷ 0x05 ∷ []) ≡ Err ProvesNothing
  pub multiples_cancel : of_zeros 0x24 (0x02 ∷ 0x03 ∷ 0x04 ∷ 0x06 ∷ []) (0x02 ∷ 0x01 ∷ []) ≡ Err ProvesNothing
  pub no_coefficient : of_zeros 0x24 (0x02 ∷ 0x03 ∷ 0x04 ∷ 0x05 ∷ []) (0x00 ∷ 0x00 ∷ []) ≡ Err ProvesNothing
  -- one that looks at the first or the last element of the combined row alone, or at the response in its place: these are judged
  pub first_cancels : of_zeros 0x24 (0x02 ∷ 0x03 ∷ 0x02 ∷ 0x04 ∷ []) (0x05 ∷ 0x05 ∷ []) ≡ Ok Rejected
  pub last_cancels : of_zeros 0x24 (0x02 ∷ 0x03 ∷ 0x04 ∷ 0x03 ∷ []) (0x05 ∷ 0x05 ∷ []) ≡ Ok Rejected
  pub none_cancels : of_zeros 0x24 (0x02 ∷ 0x03 ∷ 0x02 ∷ 0x03 ∷ []) (0x05 ∷ 0x04 ∷ []) ≡ Ok Rejected
  -- one that says so before it looks at the response's first byte
  pub nine_first : of_zeros 0x22 (0x02 ∷ 0x03 ∷ 0x02 ∷ 0x03 ∷ []) (0x05 ∷ 0x05 ∷ []) ≡ Err Malformed
  -- a Setup that looks at vector 0: one tag is accepted, two are refused for vector 1
  pub vector_0_taken : setup_answer zero_second L.mask_key L.id 3 1 (0 ∷ 0 ∷ []) ≡ done
  pub vector_1_found : setup_answer zero_second L.mask_key L.id 3 2 (0 ∷ 0 ∷ 0 ∷ 0 ∷ []) ≡ Err ZeroKeyVector
  -- refusing everything: some call is accepted (`answers`)
  pub accepted : archive_answer fresh first_call ≡ done
  -- a Repair that only marks, or keeps a helper's tag: the place holds these bytes, the last of them a tag that no helper had (`places`)
  pub repaired_bytes : tab (record_length (L.z 1)) (byte_in (L.z 1) (L.archive 1 1) (place_number (L.z 1) 2 0))
      ≡ 0x2a ∷ 0xf3 ∷ 0xd5 ∷ 0xf3 ∷ 0xfe ∷ 0xbd ∷ []
  -- an Encode that fills other places too: every other place is as it was (`places`, `marks`)
  pub one_place : (k : ℕ) → 0 < k → k < place_count (L.z 1)
      → (mark_at (archive_after fresh first_call) k ≡ false)
      × ((e : ℕ) → e < record_length (L.z 1) → byte_in (L.z 1) (archive_after fresh first_call) k e ≡ 0)
  -- a Lose that clears marks and leaves records: Encode and then Lose leave a new archive, all of its bytes (`RebuiltIsFresh`); without its
  -- marks alone, what Encode left is none
  pub emptied : archive_run fresh (first_call ∷ lose 0 ∷ []) ≡ fresh
  pub unmarked : with_marks (λ k. false) (archive_after fresh first_call) ≢ fresh
  -- a Gather that compares four bytes of the header: a share of another id is refused, its last byte too
  pub other_id : gather_answer (keeping ended []) (put 1 11 (λ i. 0x09) ended) 1 ≡ Err BadArchive
  -- one that gathers over filled places
  pub no_overwriting : gather_answer ended ended 2 ≡ Err PlaceFilled
  -- one that takes the records of filled places alone: a byte in an empty place's record comes along, and no mark with it
  pub empty_too : gather_after (keeping ended []) (put 1 18 (λ i. 0x01) ended) 0 ≡ put 1 18 (λ i. 0x01) (keeping ended [])
  -- a Rows that goes by records and not by marks: node 0 is empty, whatever stands where its first row would
  pub unmarked_row : (out : List ℕ) → length out ≡ 4 → rows_out (put 2 21 (λ i. 0x01) ended) 0 out ≡ 0x00 ∷ 0x00 ∷ 0x00 ∷ 0x00 ∷ []
  -- a Read that does not look: 8 comes with a vector that is orthogonal to every filled row
  pub seen : (s out written : List ℕ) → ReadAllows s out (Err Unreadable) written → Blind (sizes_of s) (mark_at s) (row_in (sizes_of s) s)
  -- an invented number from Inventory: it is that of the filled places
  pub counted : (s out : List ℕ) (count : ℕ) → inventory_answer s out ≡ Ok count → count ≡ how_many (place_count (sizes_of s)) (mark_at s)
  -- an Inventory that goes by place, then box, one that falls, and one with its zeros in front: none lists the life's archive so
  pub shelved : (out : List ℕ) → length out ≡ 6
      → (inventory_out (L.archive 1 1) out ≢ 0x08 ∷ 0x10 ∷ 0x09 ∷ 0x11 ∷ 0x00 ∷ 0x00 ∷ [])
      × (inventory_out (L.archive 1 1) out ≢ 0x11 ∷ 0x10 ∷ 0x09 ∷ 0x08 ∷ 0x00 ∷ 0x00 ∷ [])
      × (inventory_out (L.archive 1 1) out ≢ 0x00 ∷ 0x00 ∷ 0x08 ∷ 0x09 ∷ 0x10 ∷ 0x11 ∷ [])
  -- too small a number from Read: at least m places were consulted, and they suffice
  pub consulted : (s out file : List ℕ) (count : ℕ) → ReadAllows s out (Ok count) file
      → Enough (sizes_of s) (mark_at s) (row_in (sizes_of s) s) count
