-- Demand 3 (docs/STATEMENT.md): one claim about a whole list of calls.
use Rattle.std.specs.Prelude.{ℕ, ◌+◌, ◌<◌, ◌≡◌, ◌↔◌, ◌≢◌, Bool, true, List, [], ◌∷◌, length}
use Rattle.lists.specs.Lists.{at, tab, flat, how_many, Bytes}
use Rattle.answer.specs.Answer.{Answer, Counted, done, Ok, Err}
use Rattle.answer.specs.declared.Refusal.TheVariants.{ProvesNothing}
use Rattle.field.specs.Field.{plus}
use Rattle.sizes.specs.declared.Sizes.{Sizes}
use Rattle.vector.specs.Vectors.{product, mixed}
use Rattle.mask.specs.Setup.{setup_answer, setup_out}
use Rattle.sizes.specs.Lengths.{response_length, place_count, block_length, place_number, file_length, padding_length, mark_count, seed_length}
use Rattle.message.specs.Response.{data_in, sum_in, tag_in}
use Rattle.message.specs.Challenge.{Challenge, challenge_answer, challenge_out}
use Rattle.audit.specs.Verdict.{verdict_of}
use Rattle.audit.specs.declared.Judgement.{Judgement}
use Rattle.audit.specs.declared.Judgement.TheVariants.{Accepted, Rejected}
use Rattle.archive.specs.Layout.{mark_at, byte_in}
use Rattle.archive.specs.Open.{open_answer, open_out}
use Rattle.archive.specs.Blocks.{coded}
use Rattle.archive.specs.Calls.{Call, encode, lose, repair, archive_answers, archive_run}
use Rattle.archive.specs.Prove.{prove_answer, response_for, prove_out}
use Rattle.archive.specs.Read.{row_in, Blind, Enough, ReadAllows}
use Rattle.archive.specs.Inventory.{shelf, inventory_answer, inventory_out, Listed}
use Rattle.answer.specs.Numbers.{answer_number}
use Rattle.answer.specs.Counted.{counted_value}
use Rattle.promise.specs.Table.{filled, Table, all_empty, is_filled, element, numbered, table_answer, table_after, table_answers, table_run}
use Rattle.promise.specs.Image.{Setting, vector}

-- ---- the premises

-- an archive that Open made, in either layout, a file with its padding, and two keys
pub record Given : Type 0 where
  pub layout : ℕ
  pub z : Sizes
  pub id : List ℕ
  -- what Open was lent
  pub lent : List ℕ
  pub open_done : open_answer layout z id lent ≡ done
  pub file : List ℕ
  pub file_size : length file ≡ file_length z
  pub file_bytes : Bytes file
  pub padding : List ℕ
  pub padding_size : length padding ≡ padding_length z
  -- Setup accepted both keys, for this id, n and number of tags
  pub tag_key : List ℕ
  pub mask_key : List ℕ
  pub auxiliary_lent : List ℕ
  pub setup_done : setup_answer tag_key mask_key id z.n z.tags auxiliary_lent ≡ done

abbrev pub setting : (g : Given) → Setting
setting g = record { layout = g.layout; z = g.z; id = g.id; file = g.file; padding = g.padding; tag_key = g.tag_key }

-- what Setup wrote
abbrev pub given_auxiliary : (g : Given) → List ℕ
given_auxiliary g = setup_out g.tag_key g.mask_key g.id g.z.n g.z.tags g.auxiliary_lent

-- an Encode that takes the one file, padding and tag key; its row is of bytes
abbrev pub TakesOne : Given → Call → Type 0
TakesOne g (encode node place file padding key row) = (file ≡ g.file) × (padding ≡ g.padding) × (key ≡ g.tag_key) × Bytes row
TakesOne g (lose node) = Unit {0}
TakesOne g (repair target helpers q gammas thetas scratch) = Unit {0}

-- so does every Encode that the table accepts; of a refused call nothing is asked
abbrev pub Admitted : Given → Table → List Call → Type 0
Admitted g t [] = Unit {0}
Admitted g t (c ∷ cs) = (table_answer g.z t c ≡ done → TakesOne g c) × Admitted g (table_after g.z t c) cs

-- ---- an honest audit

-- a challenge that was accepted and names filled places of a node, a seed, and buffers of the right lengths
pub record Honest (g : Given) (t : Table) : Type 0 where
  pub c : Challenge
  pub lent : List ℕ
  pub asked : challenge_answer c lent ≡ done
  pub coefficients_bytes : Bytes c.coefficients
  pub node_there : c.node < g.z.nodes
  pub places_there : (j : ℕ) → j < length c.places → at c.places j < g.z.places
  pub places_filled : (j : ℕ) → j < length c.places → is_filled (t c.node (at c.places j)) ≡ true
  pub seed : List ℕ
  pub seed_size : length seed ≡ seed_length
  pub out : List ℕ
  pub out_size : length out ≡ response_length g.z.n g.z.tags

module _ (g : Given) (t : Table) (archive : List ℕ) (h : Honest g t) where
  -- what Challenge wrote
  abbrev pub message : List ℕ
  message = challenge_out h.c h.lent

  -- what Prove wrote, by the mask key and what Setup wrote
  abbrev pub sent : List ℕ
  sent = prove_out archive g.mask_key (given_auxiliary g) h.seed message h.out

  -- the rows of the node as the table has them, zeros where a place is empty
  abbrev pub node_rows : List ℕ
  node_rows = flat g.z.places g.z.m (λ place. element (t h.c.node place))

  -- what Verdict says of a response, by those rows
  abbrev pub says : List ℕ → Answer Judgement
  says response = verdict_of g.tag_key g.id g.z node_rows message response

  -- the table's rows of the named places, combined by the challenge
  abbrev pub named_row : ℕ → ℕ
  named_row = mixed (length h.c.places) (at h.c.coefficients) (λ j. element (t h.c.node (at h.c.places j)))

  -- that row has an element that is not zero
  pub record Telling : Type 0 where
    pub one : ℕ
    pub one_there : one < g.z.m
    pub one_not : named_row one ≢ 0

  -- it has none: any box could answer
  abbrev pub Silent : Type 0
  Silent = (i : ℕ) → i < g.z.m → named_row i ≡ 0

  -- the source blocks combined by that row
  abbrev pub named_block : ℕ → ℕ
  named_block = coded g.z g.file g.padding named_row

  -- the response of the scheme for that block and its tags
  abbrev pub expected : List ℕ
  expected =
      response_for g.z.n g.z.tags g.id g.mask_key (given_auxiliary g) h.seed h.c.node named_block
      (λ s. product (block_length g.z) named_block (vector (setting g) s))

  pub record AuditHolds : Type 0 where
    pub proves : prove_answer archive g.mask_key (given_auxiliary g) h.seed message h.out ≡ done
    pub sends : sent ≡ expected
    pub accepts : Telling → says sent ≡ Ok Accepted

  -- a change is the sum of two responses' elements at one position; those of the n data elements, times key vector s, are together those
  -- of tag s and mask sum s
  abbrev pub ChangesAddUpAt : List ℕ → ℕ → Type 0
  ChangesAddUpAt other s =
      product g.z.n (λ e. plus (data_in g.z.n g.z.tags other e) (data_in g.z.n g.z.tags sent e)) (vector (setting g) s)
      ≡ plus (plus (tag_in g.z.n g.z.tags other s) (tag_in g.z.n g.z.tags sent s))
      (plus (sum_in g.z.n other s) (sum_in g.z.n sent s))

  -- so it is for every tag
  abbrev pub ChangesAddUp : List ℕ → Type 0
  ChangesAddUp other = (s : ℕ) → s < g.z.tags → ChangesAddUpAt other s

-- ---- the conclusion

-- a place holds the source blocks combined by a row, with their tags
pub record HoldsCoded (g : Given) (archive : List ℕ) (k : ℕ) (row : List ℕ) : Type 0 where
  pub block : (e : ℕ) → e < block_length g.z → byte_in g.z archive k e ≡ coded g.z g.file g.padding (at row) e
  pub tag : (s : ℕ) → s < g.z.tags
      → byte_in g.z archive k (block_length g.z + s)
      ≡ product (block_length g.z) (coded g.z g.file g.padding (at row)) (vector (setting g) s)

-- whether the table's place number k is filled
abbrev pub table_filled : (z : Sizes) (t : Table) (k : ℕ) → Bool
table_filled z t k = is_filled (numbered z t k)

abbrev pub table_count : (z : Sizes) (t : Table) → ℕ
table_count z t = how_many (place_count z) (table_filled z t)

-- a vector of m bytes, not all zero, is orthogonal to all rows in the table
abbrev pub TableBlind : (z : Sizes) (t : Table) → Type 0
TableBlind z t = Blind z (table_filled z t) (λ k. element (numbered z t k))

pub record Demand (g : Given) (calls : List Call) (t : Table) (archive : List ℕ) : Type 0 where
  -- the archive answers, marks and stores rows as the table does
  pub answers : archive_answers (open_out g.layout g.z g.id g.lent) calls ≡ table_answers g.z all_empty calls
  pub marks : (k : ℕ) → k < mark_count → mark_at archive k ≡ table_filled g.z t k
  pub rows : (node place : ℕ) (row : List ℕ) → node < g.z.nodes → place < g.z.places → t node place ≡ filled row
      → tab g.z.m (row_in g.z archive (place_number g.z node place)) ≡ row
  -- Inventory counts the table's filled places and lists them in shelf order, each once and nothing else, whatever stood there before; lent
  -- another length, it refuses with 2
  pub inventory : (out : List ℕ)
      → (length out ≡ place_count g.z
      → (inventory_answer archive out ≡ Ok (table_count g.z t))
      × (inventory_out archive out ≡ shelf g.z (table_filled g.z t))
      × Listed g.z (λ node place. is_filled (t node place)) (table_count g.z t) (inventory_out archive out))
      × (length out ≢ place_count g.z → answer_number (inventory_answer archive out) ≡ 2)
  -- what stands in each filled place
  pub places : (node place : ℕ) (row : List ℕ) → node < g.z.nodes → place < g.z.places → t node place ≡ filled row
      → HoldsCoded g archive (place_number g.z node place) row
  -- an honest audit, with any seed: Prove sends what it should, and is accepted where the combined row tells something
  pub audits : (h : Honest g t) → AuditHolds g t archive h
  -- there another response, of that length and first byte, is accepted if its changes add up, and rejected if they do not
  pub altered : (h : Honest g t) → Telling g t archive h
      → (other : List ℕ) → length other ≡ length (sent g t archive h) → at other 0 ≡ at (sent g t archive h) 0
      → ((says g t archive h other ≡ Ok Accepted) ↔ ChangesAddUp g t archive h other)
      × ((says g t archive h other ≡ Ok Rejected) ↔ (¬ ChangesAddUp g t archive h other))
  -- where the combined row is zero, every response of that length and first byte is refused by the number 11, and none accepted
  pub unproved : (h : Honest g t) → Silent g t archive h
      → (other : List ℕ) → length other ≡ length (sent g t archive h) → at other 0 ≡ at (sent g t archive h) 0
      → says g t archive h other ≡ Err ProvesNothing
  -- Read, lent the file's length, gives back the file, or refuses with 8 if and only if the table's rows leave something open; the
  -- places that it consulted are enough of the table's too
  pub read : (out : List ℕ) (answer : Counted) (file : List ℕ) → length out ≡ file_length g.z → ReadAllows archive out answer file
      → ((answer_number answer ≡ 8) ↔ TableBlind g.z t)
      × ((¬ TableBlind g.z t)
      → (answer_number answer ≡ 0) × (file ≡ g.file)
      × ((old : ℕ) → Enough g.z (table_filled g.z t) (λ k. element (numbered g.z t k)) (counted_value answer old)))

-- for every list of calls, on the archive and on a table that was empty at first
abbrev pub Demand3 : Type 0
Demand3 =
    (g : Given) (calls : List Call) → Admitted g all_empty calls
    → Demand g calls (table_run g.z all_empty calls) (archive_run (open_out g.layout g.z g.id g.lent) calls)
