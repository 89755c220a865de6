-- Worked values, computed from the definitions: n=3, m=2 and one tag, over a key vector that comes from no key.
use Rattle.std.specs.Prelude.{ℕ, ◌+◌, ◌≡◌, true, false, List, [], ◌∷◌, ◌++◌}
use Rattle.lists.specs.Lists.{at, tab}
use Rattle.answer.specs.declared.Refusal.TheVariants.{Unreadable}
use Rattle.answer.specs.Numbers.{answer_number}
use Rattle.field.specs.Field.{plus, times, inverse_of}
use Rattle.sizes.specs.declared.Sizes.{Sizes}
use Rattle.vector.specs.Vectors.{product}
use Rattle.mask.specs.Masks.{auxiliary, mask, mask_sum}
use Rattle.message.specs.Response.{response_bytes, sum_in, tag_in}
use Rattle.message.specs.Challenge.{Challenge, challenge_answer, challenge_out}
use Rattle.audit.specs.Verdict.{named_row, appended, accepts}
use Rattle.archive.specs.Blocks.{source, coded_record}
use Rattle.archive.specs.Prove.{named_byte}
use Rattle.archive.specs.Read.{ReadAllows}
use Rattle.answer.specs.Answer.{Ok, Err}
use Rattle.tag.specs.KeyVector.{with_tags}

abbrev pub z : Sizes
z = record { n = 3; m = 2; places = 1; nodes = 3; tags = 1 }

abbrev pub vectors : (s e : ℕ) → ℕ
vectors s = at (0x83 ∷ 0x02 ∷ 0x01 ∷ 0x03 ∷ 0x05 ∷ [])

-- the file and padding whose source blocks are b1 and b2
abbrev pub file : List ℕ
file = 0x57 ∷ 0x01 ∷ []

abbrev pub padding : List ℕ
padding = 0x01 ∷ 0x00 ∷ 0x00 ∷ 0x04 ∷ []

-- 02·b1+03·b2
abbrev pub row : ℕ → ℕ
row = at (0x02 ∷ 0x03 ∷ [])

abbrev pub mask_rows : (i e : ℕ) → ℕ
mask_rows i e = at (0x05 ∷ 0x09 ∷ []) i

abbrev pub coefficients : ℕ → ℕ
coefficients = at (0x01 ∷ 0x02 ∷ [])

-- to node 2, for its only place
abbrev pub challenge : Challenge
challenge = record { node = 2; places = 0 ∷ []; coefficients = 0x01 ∷ [] }

abbrev pub seed : List ℕ
seed = tab 11 (λ i. 0)

-- a response of node 2 with these masked byte, mask sum, elements in clear and tag
abbrev pub bytes : (masked total clear clear' tag : ℕ) → List ℕ
bytes masked total clear clear' tag = 0x24 ∷ masked ∷ (seed ++ (total ∷ clear ∷ clear' ∷ tag ∷ []))

-- the row that the auditor has for the one place
abbrev pub combined : ℕ → ℕ
combined = named_row z (0x02 ∷ 0x03 ∷ []) challenge

-- archives of three boxes: boxes 0 and 2 hold b1 and the combination, or box 0 holds b1 and the others nothing
abbrev pub header : (marks : ℕ) → List ℕ
header marks = 0x10 ∷ 0x06 ∷ 0x21 ∷ 0x60 ∷ 1 ∷ 2 ∷ 3 ∷ 4 ∷ 5 ∷ 6 ∷ 7 ∷ 8 ∷ marks ∷ 0 ∷ 0 ∷ 0 ∷ 0 ∷ 0 ∷ []

abbrev pub two : List ℕ
two =
    header 0xa0
    ++ (0x57 ∷ 0x01 ∷ 0x00 ∷ 0x01 ∷ 0x00 ∷ 0xc0 ∷ 0 ∷ 0 ∷ 0 ∷ 0 ∷ 0 ∷ 0 ∷ 0xad ∷ 0x02 ∷ 0x0c ∷ 0x02 ∷ 0x03 ∷ 0x06 ∷ [])

abbrev pub one : List ℕ
one = header 0x80 ++ (0x57 ∷ 0x01 ∷ 0x00 ∷ 0x01 ∷ 0x00 ∷ 0xc0 ∷ 0 ∷ 0 ∷ 0 ∷ 0 ∷ 0 ∷ 0 ∷ 0 ∷ 0 ∷ 0 ∷ 0 ∷ 0 ∷ 0 ∷ [])

-- node 2 of that archive answers the challenge; the seed is zeros
abbrev pub response : List ℕ
response =
    response_bytes 3 1 2 (named_byte z two challenge) (λ s. named_byte z two challenge (5 + s)) (mask 3 coefficients mask_rows) seed
    (mask_sum 3 coefficients (auxiliary 3 1 vectors mask_rows))

pub record Worked : Type 0 where
  -- products and inverses
  pub product_83 : times 0x57 0x83 ≡ 0xc1
  pub product_13 : times 0x57 0x13 ≡ 0xfe
  pub inverse_53 : inverse_of 0x53 ≡ 0xca
  pub inverse_00 : inverse_of 0x00 ≡ 0x00
  -- the source blocks b1 and b2, with their tags
  pub b1 : tab 6 (with_tags 5 vectors (source z file padding 0)) ≡ 0x57 ∷ 0x01 ∷ 0x00 ∷ 0x01 ∷ 0x00 ∷ 0xc0 ∷ []
  pub b2 : tab 6 (with_tags 5 vectors (source z file padding 1)) ≡ 0x01 ∷ 0x00 ∷ 0x04 ∷ 0x00 ∷ 0x01 ∷ 0x82 ∷ []
  -- their combination by 02 and 03, with its tag
  pub combination : tab 6 (coded_record z vectors file padding row) ≡ 0xad ∷ 0x02 ∷ 0x0c ∷ 0x02 ∷ 0x03 ∷ 0x06 ∷ []
  -- the tags c0 and 82 combined by the same coefficients
  pub tags : plus (times 0x02 0xc0) (times 0x03 0x82) ≡ 0x06
  -- auxiliary elements, mask and mask sum
  pub auxiliary_is : auxiliary 3 1 vectors mask_rows ≡ 0xb9 ∷ 0xf7 ∷ []
  pub mask_17 : mask 3 coefficients mask_rows 0 ≡ 0x17
  pub sum_4c : mask_sum 3 coefficients (0xb9 ∷ 0xf7 ∷ []) 0 ≡ 0x4c
  -- the response, and both sides of what Verdict compares
  pub response_is : response ≡ bytes 0xba 0x4c 0x02 0x0c 0x06
  pub left : product 5 (appended 3 1 response combined) (vectors 0) ≡ 0x4a
  pub right : plus (tag_in 3 1 response 0) (sum_in 3 response 0) ≡ 0x4a
  pub accepted : accepts z vectors combined response ≡ true
  -- one change is found; two that add up are not
  pub changed : accepts z vectors combined (bytes (plus 0xba 0x01) 0x4c 0x02 0x0c 0x06) ≡ false
  pub changed_both : accepts z vectors combined (bytes (plus 0xba 0x01) (plus 0x4c 0x83) 0x02 0x0c 0x06) ≡ true
  -- the challenge, and its bytes
  pub asked : answer_number (challenge_answer challenge (0 ∷ 0 ∷ 0 ∷ [])) ≡ 0
  pub message : challenge_out challenge (0 ∷ 0 ∷ 0 ∷ []) ≡ 0x14 ∷ 0x20 ∷ 0x04 ∷ []
  -- Read of two rows gives the file, of one row 8, and nothing else (`ReadIsFixed`)
  pub read_two : ReadAllows two (0 ∷ 0 ∷ []) (Ok 2) (0x57 ∷ 0x01 ∷ [])
  pub read_one : ReadAllows one (0 ∷ 0 ∷ []) (Err Unreadable) (0 ∷ 0 ∷ [])
  pub eight : answer_number {A = ℕ} (Err Unreadable) ≡ 8
