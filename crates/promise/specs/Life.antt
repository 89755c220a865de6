-- A life in numbers, lived twice, in layout 1 and in layout 2 with three tags: a concrete archive, keys and a list of calls that meet every
-- premise of demand 3, with accepted Encodes, an accepted Repair, refused calls that carry other data, and two honest audits, one of which
-- proves nothing.
use Rattle.std.specs.Prelude.{ℕ, ◌-◌, ◌*◌, ◌≡◌, refl, List, [], ◌∷◌, ◌++◌, length, take, drop}
use Rattle.lists.specs.Lists.{at, tab, flat, zero_padded, Bytes}
use Rattle.answer.specs.Answer.{done, Ok, Err}
use Rattle.answer.specs.declared.Refusal.TheVariants.{Length, NoSuchPlace, PlaceEmpty, PlaceFilled, ProvesNothing}
use Rattle.sizes.specs.declared.Sizes.{Sizes}
use Rattle.sizes.specs.Lengths.{record_length, archive_length, record_start, auxiliary_length}
use Rattle.tag.specs.Vector.{vector_out}
use Rattle.mask.specs.Setup.{setup_answer}
use Rattle.audit.specs.declared.Judgement.TheVariants.{Accepted}
use Rattle.archive.specs.Layout.{layout_of, sizes_of}
use Rattle.archive.specs.Open.{open_answer, open_out}
use Rattle.archive.specs.Gather.{gather_answer, gather_after}
use Rattle.archive.specs.Told.{sizes_answer, rows_answer, rows_out}
use Rattle.archive.specs.Inventory.{inventory_answer, inventory_out}
use Rattle.archive.specs.Losses.{LossesAllows}
use Rattle.archive.specs.Calls.{Call, encode, lose, repair, archive_answers, archive_run}
use Rattle.promise.specs.Table.{Table, all_empty, table_run}
use Rattle.promise.specs.Fresh.{fresh_calls}
use Rattle.promise.specs.Shares.{keeping, share_of, gather_run, GathersDone}
use Rattle.promise.specs.Demand3.{Given, setting, given_auxiliary, Admitted, Honest, message, sent, says, Telling, Silent}

abbrev pub z : (tags : ℕ) → Sizes
z tags = record { n = 3; m = 2; places = 2; nodes = 3; tags = tags }

abbrev pub id : List ℕ
id =
    0x01 ∷ 0x02 ∷ 0x03 ∷ 0x04 ∷ 0x05 ∷ 0x06 ∷ 0x07 ∷ 0x08 ∷ []

abbrev pub tag_key : List ℕ
tag_key =
    0x00 ∷ 0x01 ∷ 0x02 ∷ 0x03 ∷ 0x04 ∷ 0x05 ∷ 0x06 ∷ 0x07 ∷ 0x08 ∷ 0x09 ∷ 0x0a ∷ 0x0b ∷ 0x0c ∷ 0x0d ∷ 0x0e ∷ 0x0f ∷ 0x10 ∷ 0x11
    ∷ 0x12 ∷ 0x13 ∷ 0x14 ∷ 0x15 ∷ 0x16 ∷ 0x17 ∷ 0x18 ∷ 0x19 ∷ 0x1a ∷ 0x1b ∷ 0x1c ∷ 0x1d ∷ 0x1e ∷ 0x1f ∷ []

abbrev pub mask_key : List ℕ
mask_key =
    0x64 ∷ 0x65 ∷ 0x66 ∷ 0x67 ∷ 0x68 ∷ 0x69 ∷ 0x6a ∷ 0x6b ∷ 0x6c ∷ 0x6d ∷ 0x6e ∷ 0x6f ∷ 0x70 ∷ 0x71 ∷ 0x72 ∷ 0x73 ∷ 0x74 ∷ 0x75
    ∷ 0x76 ∷ 0x77 ∷ 0x78 ∷ 0x79 ∷ 0x7a ∷ 0x7b ∷ 0x7c ∷ 0x7d ∷ 0x7e ∷ 0x7f ∷ 0x80 ∷ 0x81 ∷ 0x82 ∷ 0x83 ∷ []

abbrev pub file : List ℕ
file =
    0x57 ∷ 0x01 ∷ []

abbrev pub padding : List ℕ
padding =
    0x01 ∷ 0x00 ∷ 0x00 ∷ 0x04 ∷ []

abbrev pub gammas : List ℕ
gammas =
    0x01 ∷ 0x08 ∷ 0x0f ∷ 0x16 ∷ 0x1d ∷ 0x24 ∷ 0x2b ∷ 0x32 ∷ []

abbrev pub thetas : List ℕ
thetas =
    0x03 ∷ 0x20 ∷ 0x3d ∷ 0x5a ∷ 0x77 ∷ 0x94 ∷ 0xb1 ∷ 0xce ∷ []

abbrev pub calls : (tags : ℕ) → List Call
calls tags =
    encode 0 0 file padding tag_key (0x01 ∷ 0x00 ∷ [])
    ∷ encode 0 0 (0x09 ∷ 0x09 ∷ []) padding mask_key (0x01 ∷ 0x01 ∷ [])
    ∷ encode 0 1 file padding tag_key (0x02 ∷ 0x03 ∷ [])
    ∷ encode 1 0 [] [] [] []
    ∷ encode 1 0 file padding tag_key (0x53 ∷ 0xca ∷ [])
    ∷ repair 2 (0 ∷ 1 ∷ []) 2 gammas thetas (4 * record_length (z tags))
    ∷ encode 1 1 file padding tag_key (0x00 ∷ 0x00 ∷ [])
    ∷ lose 3
    ∷ repair 2 (0 ∷ 1 ∷ []) 2 gammas thetas (4 * record_length (z tags))
    ∷ lose 0
    ∷ []

-- the rows that these calls leave, encoded on a new archive: none for node 0, which is lost, and one of zeros
abbrev pub encodes : List Call
encodes =
    encode 1 0 file padding tag_key (0x53 ∷ 0xca ∷ [])
    ∷ encode 1 1 file padding tag_key (0x00 ∷ 0x00 ∷ [])
    ∷ encode 2 0 file padding tag_key (0xf3 ∷ 0xfe ∷ [])
    ∷ encode 2 1 file padding tag_key (0x72 ∷ 0xfb ∷ [])
    ∷ []

abbrev pub lent : (tags : ℕ) → List ℕ
lent tags = tab (archive_length (z tags)) (λ i. 0)

abbrev pub lent_auxiliary : (tags : ℕ) → List ℕ
lent_auxiliary tags = tab (auxiliary_length 3 tags) (λ i. 0)

-- the setting, once Open and Setup have accepted it
abbrev pub given : (layout tags : ℕ) → open_answer layout (z tags) id (lent tags) ≡ done
    → setup_answer tag_key mask_key id 3 tags (lent_auxiliary tags) ≡ done → Bytes file → Given
given layout tags opens sets_up bytes =
    record {
      layout = layout;
      z = z tags;
      id = id;
      lent = lent tags;
      open_done = opens;
      file = file;
      file_size = refl;
      file_bytes = bytes;
      padding = padding;
      padding_size = refl;
      tag_key = tag_key;
      mask_key = mask_key;
      auxiliary_lent = lent_auxiliary tags;
      setup_done = sets_up;
    }

abbrev pub table : (tags : ℕ) → Table
table tags = table_run (z tags) all_empty (calls tags)

abbrev pub archive : (layout tags : ℕ) → List ℕ
archive layout tags = archive_run (open_out layout (z tags) id (lent tags)) (calls tags)

-- what the life leaves and sends, in a layout and a number of tags
pub record Numbers : Type 0 where
  pub layout : ℕ
  pub tags : ℕ
  pub archive_bytes : List ℕ
  -- the key vectors and the auxiliary elements, tag by tag
  pub vector_bytes : List ℕ
  pub auxiliary_bytes : List ℕ
  pub response_bytes : List ℕ

abbrev pub one : Numbers
one =
    record {
      layout = 1;
      tags = 1;
      archive_bytes =
          0x10 ∷ 0x06 ∷ 0x22 ∷ 0x60 ∷ 0x01 ∷ 0x02 ∷ 0x03 ∷ 0x04 ∷ 0x05 ∷ 0x06 ∷ 0x07 ∷ 0x08 ∷ 0x3c ∷ 0x00 ∷ 0x00 ∷ 0x00 ∷ 0x00 ∷ 0x00
          ∷ 0x00 ∷ 0x00 ∷ 0x00 ∷ 0x00 ∷ 0x00 ∷ 0x00 ∷ 0x00 ∷ 0x00 ∷ 0x00 ∷ 0x00 ∷ 0x00 ∷ 0x00 ∷ 0x28 ∷ 0x53 ∷ 0x05 ∷ 0x53 ∷ 0xca ∷ 0xa5
          ∷ 0x00 ∷ 0x00 ∷ 0x00 ∷ 0x00 ∷ 0x00 ∷ 0x00 ∷ 0x2a ∷ 0xf3 ∷ 0xd5 ∷ 0xf3 ∷ 0xfe ∷ 0xbd ∷ 0x40 ∷ 0x72 ∷ 0xc1 ∷ 0x72 ∷ 0xfb ∷ 0xca
          ∷ [];
      vector_bytes = 0x04 ∷ 0x22 ∷ 0x0a ∷ 0x59 ∷ 0x61 ∷ [];
      auxiliary_bytes = 0xa7 ∷ 0xaa ∷ [];
      response_bytes =
          0x24 ∷ 0x2a ∷ 0x00 ∷ 0x14 ∷ 0x28 ∷ 0x3c ∷ 0x50 ∷ 0x64 ∷ 0x78 ∷ 0x8c ∷ 0xa0 ∷ 0xb4 ∷ 0xc8 ∷ 0x63 ∷ 0xc8 ∷ 0x55 ∷ 0x4d ∷ [];
    }

abbrev pub three : Numbers
three =
    record {
      layout = 2;
      tags = 3;
      archive_bytes =
          0x20 ∷ 0x06 ∷ 0x22 ∷ 0x66 ∷ 0x01 ∷ 0x02 ∷ 0x03 ∷ 0x04 ∷ 0x05 ∷ 0x06 ∷ 0x07 ∷ 0x08 ∷ 0x3c ∷ 0x00 ∷ 0x00 ∷ 0x00 ∷ 0x00 ∷ 0x00
          ∷ 0x00 ∷ 0x00 ∷ 0x00 ∷ 0x00 ∷ 0x00 ∷ 0x00 ∷ 0x00 ∷ 0x00 ∷ 0x00 ∷ 0x00 ∷ 0x00 ∷ 0x00 ∷ 0x00 ∷ 0x00 ∷ 0x00 ∷ 0x00
          ∷ 0x28 ∷ 0x53 ∷ 0x05 ∷ 0x53 ∷ 0xca ∷ 0xa5 ∷ 0x96 ∷ 0x15 ∷ 0x00 ∷ 0x00 ∷ 0x00 ∷ 0x00 ∷ 0x00 ∷ 0x00 ∷ 0x00 ∷ 0x00
          ∷ 0x2a ∷ 0xf3 ∷ 0xd5 ∷ 0xf3 ∷ 0xfe ∷ 0xbd ∷ 0x28 ∷ 0x64 ∷ 0x40 ∷ 0x72 ∷ 0xc1 ∷ 0x72 ∷ 0xfb ∷ 0xca ∷ 0x98 ∷ 0x20 ∷ [];
      vector_bytes =
          0x04 ∷ 0x22 ∷ 0x0a ∷ 0x59 ∷ 0x61 ∷ 0x2d ∷ 0xf9 ∷ 0x53 ∷ 0x39 ∷ 0xc5 ∷ 0x12 ∷ 0x8a ∷ 0xcc ∷ 0x81 ∷ 0x33 ∷ [];
      auxiliary_bytes = 0xa7 ∷ 0xaa ∷ 0xd2 ∷ 0x65 ∷ 0x74 ∷ 0xcb ∷ [];
      response_bytes =
          0x24 ∷ 0x2a ∷ 0x00 ∷ 0x14 ∷ 0x28 ∷ 0x3c ∷ 0x50 ∷ 0x64 ∷ 0x78 ∷ 0x8c ∷ 0xa0 ∷ 0xb4 ∷ 0xc8 ∷ 0x63 ∷ 0xce ∷ 0x2b ∷ 0xc8 ∷ 0x55 ∷ 0x4d
          ∷ 0xfd ∷ 0x76 ∷ [];
    }

-- of an archive of the life: its first twelve bytes, a byte of marks, the records of one node, and zeros elsewhere
abbrev pub alone : (tags mark node : ℕ) (s : List ℕ) → List ℕ
alone tags mark node s =
    take 12 s
    ++ ((mark ∷ tab 5 (λ i. 0))
    ++ (tab (2 * node * record_length (z tags)) (λ i. 0)
    ++ (take (2 * record_length (z tags)) (drop (record_start (z tags) (2 * node)) s) ++ tab (2 * (2 - node) * record_length (z tags)) (λ i. 0))))

-- what an archive in which the life ended tells of itself, and its shares
pub record Shared (w : Numbers) (s : List ℕ) : Type 0 where
  pub sizes_are : (sizes_answer s ≡ done) × (layout_of s ≡ w.layout) × (sizes_of s ≡ z w.tags)
  -- whatever Rows is lent: zeros for node 0, which is lost, and the rows of nodes 1 and 2
  pub rows_are : (out : List ℕ) → length out ≡ 4
      → (rows_answer s 0 out ≡ done) × (rows_answer s 1 out ≡ done) × (rows_answer s 2 out ≡ done)
      × (rows_out s 0 out ≡ 0x00 ∷ 0x00 ∷ 0x00 ∷ 0x00 ∷ [])
      × (rows_out s 1 out ≡ 0x53 ∷ 0xca ∷ 0x00 ∷ 0x00 ∷ [])
      × (rows_out s 2 out ≡ 0xf3 ∷ 0xfe ∷ 0x72 ∷ 0xfb ∷ [])
  -- the shares of nodes 1 and 2
  pub shares_are : (share_of s 1 ≡ alone w.tags 0x30 1 s) × (share_of s 2 ≡ alone w.tags 0x0c 2 s)
  -- the shares of all three, gathered from the last to the first
  pub whole_again : GathersDone s (keeping s []) (2 ∷ 1 ∷ 0 ∷ []) × (gather_run s (keeping s []) (2 ∷ 1 ∷ 0 ∷ []) ≡ s)

pub record Lived (w : Numbers) : Type 0 where
  pub opens : open_answer w.layout (z w.tags) id (lent w.tags) ≡ done
  pub sets_up : setup_answer tag_key mask_key id 3 w.tags (lent_auxiliary w.tags) ≡ done
  pub file_bytes : Bytes file
  pub admitted : Admitted (given w.layout w.tags opens sets_up file_bytes) all_empty (calls w.tags)
  pub answers : archive_answers (open_out w.layout (z w.tags) id (lent w.tags)) (calls w.tags)
      ≡ done ∷ Err PlaceFilled ∷ done ∷ Err Length ∷ done ∷ Err PlaceEmpty ∷ done ∷ Err NoSuchPlace ∷ done ∷ done ∷ []
  pub archive_is : archive w.layout w.tags ≡ w.archive_bytes
  -- the row table's rows, encoded: those four calls; whatever the new archive is lent, they are done and leave the same bytes
  pub fresh_encodes : fresh_calls (setting (given w.layout w.tags opens sets_up file_bytes)) (table w.tags) ≡ encodes
  pub fresh_is : (lent : List ℕ) → length lent ≡ archive_length (z w.tags)
      → (archive_answers (open_out w.layout (z w.tags) id lent) encodes ≡ done ∷ done ∷ done ∷ done ∷ [])
      × (archive_run (open_out w.layout (z w.tags) id lent) encodes ≡ w.archive_bytes)
  pub shared : Shared w (archive w.layout w.tags)
  -- of the owner's two archives, the rows of node 1 encoded on one and those of node 2 on the other: node 2, gathered into the first, makes
  -- the life's archive
  pub merged : (lent : List ℕ) → length lent ≡ archive_length (z w.tags)
      → (gather_answer (archive_run (open_out w.layout (z w.tags) id lent) (take 2 encodes))
      (archive_run (open_out w.layout (z w.tags) id lent) (drop 2 encodes)) 2 ≡ done)
      × (gather_after (archive_run (open_out w.layout (z w.tags) id lent) (take 2 encodes))
      (archive_run (open_out w.layout (z w.tags) id lent) (drop 2 encodes)) 2 ≡ w.archive_bytes)
  -- whatever Inventory is lent: both places of nodes 1 and 2, in shelf order
  pub inventory_is : (out : List ℕ) → length out ≡ 6
      → (inventory_answer (archive w.layout w.tags) out ≡ Ok 4)
      × (inventory_out (archive w.layout w.tags) out ≡ 0x08 ∷ 0x09 ∷ 0x10 ∷ 0x11 ∷ 0x00 ∷ 0x00 ∷ [])
  -- whatever Losses is lent: of every size the sets with node 2, and no other
  pub losses_are : (out : List ℕ) → length out ≡ 20
      → LossesAllows (archive w.layout w.tags) 0 out (Ok 0) (zero_padded 20 [])
      × LossesAllows (archive w.layout w.tags) 1 out (Ok 1) (zero_padded 20 (0x04 ∷ []))
      × LossesAllows (archive w.layout w.tags) 2 out (Ok 2) (zero_padded 20 (0x05 ∷ 0x06 ∷ []))
      × LossesAllows (archive w.layout w.tags) 3 out (Ok 1) (zero_padded 20 (0x07 ∷ []))
  pub vectors_are : flat w.tags 5 (λ s. at (vector_out tag_key id 3 2 s (tab 5 (λ i. 0)))) ≡ w.vector_bytes
  pub auxiliary_are : given_auxiliary (given w.layout w.tags opens sets_up file_bytes) ≡ w.auxiliary_bytes
  -- node 2, places 0 and 1, coefficients 07 and b5
  pub audit : Honest (given w.layout w.tags opens sets_up file_bytes) (table w.tags)
  pub message_is : message (given w.layout w.tags opens sets_up file_bytes) (table w.tags) (archive w.layout w.tags) audit
      ≡ 0x14 ∷ 0x40 ∷ 0x1c ∷ 0xda ∷ 0x80 ∷ []
  pub sent_is : sent (given w.layout w.tags opens sets_up file_bytes) (table w.tags) (archive w.layout w.tags) audit
      ≡ w.response_bytes
  pub telling : Telling (given w.layout w.tags opens sets_up file_bytes) (table w.tags) (archive w.layout w.tags) audit
  pub accepted : says (given w.layout w.tags opens sets_up file_bytes) (table w.tags) (archive w.layout w.tags) audit
      w.response_bytes ≡ Ok Accepted
  -- node 1, place 1, which holds the row 00 00, coefficient 01
  pub silent_audit : Honest (given w.layout w.tags opens sets_up file_bytes) (table w.tags)
  pub silent_message : message (given w.layout w.tags opens sets_up file_bytes) (table w.tags) (archive w.layout w.tags)
      silent_audit ≡ 0x12 ∷ 0x24 ∷ 0x04 ∷ []
  pub silent : Silent (given w.layout w.tags opens sets_up file_bytes) (table w.tags) (archive w.layout w.tags) silent_audit
  pub unproved : says (given w.layout w.tags opens sets_up file_bytes) (table w.tags) (archive w.layout w.tags) silent_audit
      (sent (given w.layout w.tags opens sets_up file_bytes) (table w.tags) (archive w.layout w.tags) silent_audit)
      ≡ Err ProvesNothing
