-- A rebuilt archive is a fresh one (SCHEME, Row table): what any list of calls leaves has the bytes of a new archive into which the table's rows
-- are encoded.
use Rattle.std.specs.Prelude.{ℕ, zero, suc, ◌+◌, ◌/◌, ◌%◌, ◌<◌, ◌≡◌, List, [], ◌∷◌, length}
use Rattle.answer.specs.Answer.{done}
use Rattle.sizes.specs.Lengths.{place_count, archive_length}
use Rattle.archive.specs.Open.{open_answer, open_out}
use Rattle.archive.specs.Calls.{Call, encode, archive_answers, archive_run, all_done}
use Rattle.promise.specs.Table.{Place, empty, filled, Table, all_empty, table_run}
use Rattle.promise.specs.Image.{Setting}
use Rattle.promise.specs.Demand3.{Given, setting, Admitted}

-- the Encode that fills a place with its row, before other calls; none where the place is empty
abbrev pub encode_first : (s : Setting) (node place : ℕ) (held : Place) (calls : List Call) → List Call
encode_first s node place empty calls = calls
encode_first s node place (filled row) calls = encode node place s.file s.padding s.tag_key row ∷ calls

-- the Encodes of `count` places from number k on: node by node, and within a node place by place
abbrev pub fresh_from : (s : Setting) (t : Table) (k count : ℕ) → List Call
fresh_from s t k zero = []
fresh_from s t k (suc count) =
    encode_first s (k / s.z.places) (k % s.z.places) (t (k / s.z.places) (k % s.z.places)) (fresh_from s t (k + 1) count)

-- those of all places
abbrev pub fresh_calls : (s : Setting) (t : Table) → List Call
fresh_calls s t = fresh_from s t 0 (place_count s.z)

-- those of the rows that a list of calls leaves in the table
abbrev pub rows_encoded : (g : Given) (calls : List Call) → List Call
rows_encoded g calls = fresh_calls (setting g) (table_run g.z all_empty calls)

-- what Open writes on a lent buffer
abbrev pub new_archive : (g : Given) (lent : List ℕ) → List ℕ
new_archive g lent = open_out g.layout g.z g.id lent

-- on a lent buffer Open is done, each of those Encodes is done, and the bytes are then all those that the calls left
pub record Fresh (g : Given) (calls : List Call) (lent : List ℕ) : Type 0 where
  pub opens : open_answer g.layout g.z g.id lent ≡ done
  pub encodes : archive_answers (new_archive g lent) (rows_encoded g calls) ≡ all_done (rows_encoded g calls)
  pub same : archive_run (new_archive g g.lent) calls ≡ archive_run (new_archive g lent) (rows_encoded g calls)

-- for every list of calls, under the premises of demand 3, and whatever a buffer of the archive's length held
abbrev pub RebuiltIsFresh : Type 0
RebuiltIsFresh =
    (g : Given) (calls : List Call) → Admitted g all_empty calls
    → (lent : List ℕ) → length lent ≡ archive_length g.z → Fresh g calls lent

-- two lists of calls that leave the same table leave the same bytes; so the order of the Encodes does not matter either
abbrev pub TableFixesBytes : Type 0
TableFixesBytes =
    (g : Given) (calls calls' : List Call) → Admitted g all_empty calls → Admitted g all_empty calls'
    → ((node place : ℕ) → node < g.z.nodes → place < g.z.places
    → table_run g.z all_empty calls node place ≡ table_run g.z all_empty calls' node place)
    → (lent : List ℕ) → length lent ≡ archive_length g.z
    → archive_run (new_archive g g.lent) calls ≡ archive_run (new_archive g lent) calls'
