-- Every length and offset, once. Lengths count bytes; n, m, places, nodes and tags are those of `Sizes`; s is the number of a tag, from 0.
use Rattle.std.specs.Prelude.{ℕ, ◌+◌, ◌-◌, ◌*◌}
use Rattle.sizes.specs.declared.Sizes.{Sizes}

-- ---- keys, nonces, identifiers, seeds; a keystream block

abbrev pub key_length : ℕ
key_length = 32

abbrev pub nonce_length : ℕ
nonce_length = 12

abbrev pub stream_block_length : ℕ
stream_block_length = 64

abbrev pub id_length : ℕ
id_length = 8

abbrev pub seed_length : ℕ
seed_length = 11

-- ---- the header of an archive: packed sizes, the id, fill marks

abbrev pub id_start : ℕ
id_start = 4

abbrev pub marks_start : ℕ
marks_start = 12

abbrev pub marks_length : ℕ
marks_length = 6

abbrev pub header_length : ℕ
header_length = 18

-- the marks as bits: the first of them, and how many there are
abbrev pub first_mark : ℕ
first_mark = 96

abbrev pub mark_count : ℕ
mark_count = 48

-- ---- the ranges of the sizes, from 1 but for n; what the longest record and key vector take, the latter in whole keystream blocks

abbrev pub n_least : ℕ
n_least = 3

abbrev pub n_most : ℕ
n_most = 1024

abbrev pub m_most : ℕ
m_most = 16

abbrev pub places_most : ℕ
places_most = 8

abbrev pub nodes_most : ℕ
nodes_most = 6

abbrev pub tags_most : ℕ
tags_most = 10

-- of a repair: helpers, and repair blocks that each of them sends (the scheme: P, Q)
abbrev pub helpers_most : ℕ
helpers_most = 5

abbrev pub sent_most : ℕ
sent_most = 8

abbrev pub record_most : ℕ
record_most = n_most + m_most + tags_most

abbrev pub vector_most : ℕ
vector_most = 17 * stream_block_length

-- the first n_most elements of the key vectors of all tags
abbrev pub vectors_most : ℕ
vectors_most = tags_most * n_most

-- ---- places and records

abbrev pub place_count : (z : Sizes) → ℕ
place_count z = z.nodes * z.places

-- a block is n data elements and a row of m; a record is a block and its tags
abbrev pub block_length : (z : Sizes) → ℕ
block_length z = z.n + z.m

abbrev pub record_length : (z : Sizes) → ℕ
record_length z = block_length z + z.tags

abbrev pub archive_length : (z : Sizes) → ℕ
archive_length z = header_length + place_count z * record_length z

-- the number of a node's place: records stand in the order of the marks
abbrev pub place_number : (z : Sizes) (node place : ℕ) → ℕ
place_number z node place = node * z.places + place

abbrev pub record_start : (z : Sizes) (k : ℕ) → ℕ
record_start z k = header_length + k * record_length z

-- ---- a month's file, its padding, the auxiliary elements

abbrev pub file_length : (z : Sizes) → ℕ
file_length z = z.m * (z.n - 2)

abbrev pub padding_length : (z : Sizes) → ℕ
padding_length z = 2 * z.m

-- n - 1 for each tag
abbrev pub auxiliary_length : (n tags : ℕ) → ℕ
auxiliary_length n tags = tags * (n - 1)

-- ---- a response: head, n - 2 masked bytes, seed, mask sums, two elements in clear, tags

abbrev pub response_length : (n tags : ℕ) → ℕ
response_length n tags = n + 12 + 2 * tags

abbrev pub seed_start : (n : ℕ) → ℕ
seed_start n = n - 1

abbrev pub sum_at : (n s : ℕ) → ℕ
sum_at n s = n + 10 + s

abbrev pub clear_start : (n tags : ℕ) → ℕ
clear_start n tags = n + 10 + tags

abbrev pub tag_at : (n tags s : ℕ) → ℕ
tag_at n tags s = n + 12 + tags + s
