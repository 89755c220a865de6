-- The operation Inventory (SCHEME, Operations): the filled places in shelf order. Refuses 3, 2.
use Rattle.std.specs.Prelude.{ℕ, ◌+◌, ◌*◌, ◌/◌, ◌%◌, ◌<◌, ◌≤◌, ◌≡◌, Bool, List, length, eqb}
use Rattle.lists.specs.Lists.{at, bit, how_many, filtered, zero_padded}
use Rattle.answer.specs.Answer.{Outcome, Counted, done}
use Rattle.answer.specs.declared.Refusal.TheVariants.{Length, BadArchive}
use Rattle.answer.specs.Refusals.{refuse, afterwards, differs}
use Rattle.sizes.specs.declared.Sizes.{Sizes}
use Rattle.sizes.specs.Lengths.{place_count}
use Rattle.archive.specs.Layout.{sizes_of, mark_at, bad_archive}
use Rattle.answer.specs.Counted.{counted}

-- ---- the list

-- the byte that names place number k: 8 times the box plus the place
abbrev pub place_code : (z : Sizes) (k : ℕ) → ℕ
place_code z k = 8 * (k / z.places) + k % z.places

-- shelf order: place numbers rise box by box, and within a box place by place; the codes of those that are filled, then zeros
unfoldable pub shelf : (z : Sizes) (filled : ℕ → Bool) → List ℕ
shelf z filled = zero_padded (place_count z) (filtered (place_count z) filled (place_code z))

-- ---- the operation

abbrev pub inventory_before : (z : Sizes) (s out : List ℕ) → Outcome
inventory_before z s out = refuse (bad_archive s) BadArchive (refuse (differs (length out) (place_count z)) Length done)

-- the number of filled places
unfoldable pub inventory_answer : (s out : List ℕ) → Counted
inventory_answer s out = counted (inventory_before (sizes_of s) s out) (how_many (place_count (sizes_of s)) (mark_at s))

unfoldable pub inventory_out : (s out : List ℕ) → List ℕ
inventory_out s out = afterwards (inventory_before (sizes_of s) s out) out (shelf (sizes_of s) (mark_at s))

-- ---- what is shown of it

-- the first `count` bytes name every filled place just once, and nothing else; zeros follow
pub record Listed (z : Sizes) (filled : ℕ → ℕ → Bool) (count : ℕ) (list : List ℕ) : Type 0 where
  pub size : length list ≡ place_count z
  pub number : count ≡ how_many (place_count z) (λ k. filled (k / z.places) (k % z.places))
  pub once : (node place : ℕ) → node < z.nodes → place < z.places
      → how_many count (λ j. eqb (at list j) (8 * node + place)) ≡ bit (filled node place)
  pub only : (j : ℕ) → j < count → (at list j / 8 < z.nodes) × (at list j % 8 < z.places)
  pub rest : (j : ℕ) → count ≤ j → j < place_count z → at list j ≡ 0

-- the first `count` bytes rise
abbrev pub Rising : (count : ℕ) (list : List ℕ) → Type 0
Rising count list = (i j : ℕ) → i < j → j < count → at list i < at list j
