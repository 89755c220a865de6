-- What a reader would try on the definitions first.
use Rattle.std.specs.Prelude.{ℕ, zero, suc, ◌≡◌, Bool, true, false, List, [], ◌∷◌, ◌≢◌, length}
use Rattle.answer.specs.declared.Refusal.{Refusal}
use Rattle.answer.specs.Answer.{Counted, done, Ok, Err}
use Rattle.answer.specs.declared.Refusal.TheVariants.{Size, Length, BadArchive, NoPlan}
use Rattle.answer.specs.Numbers.{refusal_number, answer_number}
use Rattle.bits.specs.Fields.{pack, packed}
use Rattle.sizes.specs.declared.Sizes.{Sizes}
use Rattle.sizes.specs.Sizes.{sizes_outside}
use Rattle.message.specs.Challenge.{Challenge, challenge_of, malformed_challenge, challenge_answer, challenge_out}
use Rattle.sizes.specs.Lengths.{archive_length}
use Rattle.archive.specs.Layout.{layout_outside, size_fields, bad_archive}
use Rattle.archive.specs.Open.{opened, open_answer}
use Rattle.lists.specs.Lists.{at, tab, bit, zero_padded, Bytes}
use Rattle.archive.specs.Inventory.{inventory_answer, inventory_out}
use Rattle.archive.specs.Plan.{PlanAllows}
use Rattle.archive.specs.Losses.{LossesAllows}
use Rattle.promise.specs.Table.{Table, all_empty}
use Rattle.promise.specs.Image.{Setting, image}
use Rattle.promise.specs.Worked as W

-- n, m=2, M=1, N=3, L
abbrev pub sizes : (n tags : ℕ) → Sizes
sizes n tags = record { n = n; m = 2; places = 1; nodes = 3; tags = tags }

-- boxes 0 and 2 filled
abbrev pub marks : ℕ → Bool
marks zero = true
marks (suc zero) = false
marks (suc (suc zero)) = true
marks (suc (suc (suc k))) = false

-- an archive of zeros behind the first and the last byte of a bad header
abbrev pub headed : (i : ℕ) → List ℕ
headed i =
    at (0x30 ∷ 0x10 ∷ 0x20 ∷ 0x20 ∷ 0x20 ∷ []) i ∷ 0x06 ∷ 0x21 ∷ at (0x62 ∷ 0x62 ∷ 0x60 ∷ 0x76 ∷ 0x63 ∷ []) i
    ∷ tab (at (32 ∷ 32 ∷ 29 ∷ 62 ∷ 32 ∷ []) i) (λ j. 0)

-- four nodes of one place, as Open writes them
abbrev pub four_empty : List ℕ
four_empty = opened 1 (record { n = 3; m = 2; places = 1; nodes = 4; tags = 1 }) (tab 8 (λ i. i))

pub record SmallCases : Type 0 where
  -- nothing answers 10
  pub ten_unused : (r : Refusal) → refusal_number r ≢ 10
  -- the image of the empty table is what Open writes
  pub empty_image : (s : Setting) → opened s.layout s.z s.id ≡ image s all_empty
  -- an image is not a bad archive
  pub good_image : (s : Setting) (t : Table) → layout_outside s.layout s.z.tags ≡ false → sizes_outside s.z ≡ false
      → length s.id ≡ 8 → bad_archive (image s t) ≡ false
  -- packing and parsing a challenge give back its fields, and a message that Challenge wrote is not malformed
  pub challenge_back : (c : Challenge) (lent : List ℕ) → challenge_answer c lent ≡ done → Bytes c.coefficients
      → (challenge_of (challenge_out c lent) ≡ c) × (malformed_challenge (challenge_out c lent) ≡ false)
  -- headers of both layouts and their lengths, sizes and layouts that are refused, and the marks of two filled boxes
  pub header : pack (size_fields 1 (sizes 3 1)) ≡ 0x10 ∷ 0x06 ∷ 0x21 ∷ 0x60 ∷ []
  pub header_2_1 : pack (size_fields 2 (sizes 3 1)) ≡ 0x20 ∷ 0x06 ∷ 0x21 ∷ 0x62 ∷ []
  pub header_2_10 : pack (size_fields 2 (sizes 3 10)) ≡ 0x20 ∷ 0x06 ∷ 0x21 ∷ 0x74 ∷ []
  pub length_36 : archive_length (sizes 3 1) ≡ 36
  pub length_63 : archive_length (sizes 3 10) ≡ 63
  pub n_2 : (id archive : List ℕ) → answer_number (open_answer 1 (sizes 2 1) id archive) ≡ 1
  pub n_1025 : (id archive : List ℕ) → answer_number (open_answer 1 (sizes 1025 1) id archive) ≡ 1
  pub tags_0 : (id archive : List ℕ) → answer_number (open_answer 2 (sizes 3 0) id archive) ≡ 1
  pub tags_11 : (id archive : List ℕ) → answer_number (open_answer 2 (sizes 3 11) id archive) ≡ 1
  pub layout_1_tags_2 : (id archive : List ℕ) → answer_number (open_answer 1 (sizes 3 2) id archive) ≡ 1
  pub layout_3 : (id archive : List ℕ) → answer_number (open_answer 3 (sizes 3 1) id archive) ≡ 1
  -- headers that are bad: no such layout, layout 1 with tags, layout 2 with none or eleven, the spare bit
  pub bad_headers : tab 5 (λ i. bit (bad_archive (headed i))) ≡ 1 ∷ 1 ∷ 1 ∷ 1 ∷ 1 ∷ []
  pub marks_a0 : packed 6 marks ≡ 0xa0 ∷ 0 ∷ 0 ∷ 0 ∷ 0 ∷ 0 ∷ []
  -- Inventory of that archive counts two, whatever it was lent, and lists place 0 of box 0, then that of box 2, 8·2+0; not box 2 first
  pub listed : (a b c : ℕ)
      → (inventory_answer W.two (a ∷ b ∷ c ∷ []) ≡ Ok 2) × (inventory_out W.two (a ∷ b ∷ c ∷ []) ≡ 0x00 ∷ 0x10 ∷ 0x00 ∷ [])
  pub not_falling : (a b c : ℕ) → inventory_out W.two (a ∷ b ∷ c ∷ []) ≢ 0x10 ∷ 0x00 ∷ 0x00 ∷ []
  -- lent two bytes or none, it refuses with 2 and leaves them
  pub two_lent : (a b : ℕ)
      → (answer_number (inventory_answer W.two (a ∷ b ∷ [])) ≡ 2) × (inventory_out W.two (a ∷ b ∷ []) ≡ a ∷ b ∷ [])
  pub none_lent : answer_number (inventory_answer W.two []) ≡ 2
  -- its rows are 01 00 and 02 03: boxes 0 and 2 give the row 00 03 by the thetas 02 01, and box 0 alone does not reach it
  pub planned : PlanAllows W.two (0 ∷ 2 ∷ []) 1 (1 ∷ 1 ∷ []) (0 ∷ 3 ∷ []) (0 ∷ 0 ∷ []) done (2 ∷ 1 ∷ [])
  pub out_of_reach : PlanAllows W.two (0 ∷ []) 1 (1 ∷ []) (0 ∷ 3 ∷ []) (0 ∷ []) (Err NoPlan) (0 ∷ [])
  -- Losses of four nodes, none filled: all sets of two, by the numbers of their nodes, and not by the bytes: 09 before 06
  pub all_hurt : (lent : List ℕ) → length lent ≡ 20
      → LossesAllows four_empty 2 lent (Ok 6) (zero_padded 20 (0x03 ∷ 0x05 ∷ 0x09 ∷ 0x06 ∷ 0x0a ∷ 0x0c ∷ []))
  pub not_by_byte : (lent sets : List ℕ) (answer : Counted) → length lent ≡ 20 → LossesAllows four_empty 2 lent answer sets
      → sets ≢ zero_padded 20 (0x03 ∷ 0x05 ∷ 0x06 ∷ 0x09 ∷ 0x0a ∷ 0x0c ∷ [])
  -- of the two rows: none while nothing is lost; node 0 and node 2, but not node 1, which is empty; every two nodes; all three
  pub nothing_lost : (lent : List ℕ) → length lent ≡ 20 → LossesAllows W.two 0 lent (Ok 0) (zero_padded 20 [])
  pub one_lost : (lent : List ℕ) → length lent ≡ 20 → LossesAllows W.two 1 lent (Ok 2) (zero_padded 20 (0x01 ∷ 0x04 ∷ []))
  pub two_lost : (lent : List ℕ) → length lent ≡ 20 → LossesAllows W.two 2 lent (Ok 3) (zero_padded 20 (0x03 ∷ 0x05 ∷ 0x06 ∷ []))
  pub all_lost : (lent : List ℕ) → length lent ≡ 20 → LossesAllows W.two 3 lent (Ok 1) (zero_padded 20 (0x07 ∷ []))
  -- the nodes that are kept in place of those that are lost: not so
  pub not_kept : (lent sets : List ℕ) (answer : Counted) → length lent ≡ 20 → LossesAllows W.two 1 lent answer sets
      → sets ≢ zero_padded 20 (0x06 ∷ 0x03 ∷ [])
  -- refused: no archive, 3, whatever else is wrong; more nodes than there are, 1, whatever list is lent; a list of 19 bytes, 2
  pub no_archive : (k : ℕ) (lent : List ℕ) → LossesAllows [] k lent (Err BadArchive) lent
  pub four_of_three : (lent : List ℕ) → LossesAllows W.two 4 lent (Err Size) lent
  pub list_of_19 : (lent : List ℕ) → length lent ≡ 19 → LossesAllows W.two 3 lent (Err Length) lent
