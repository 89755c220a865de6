-- The operation Read (SCHEME, Operations), a relation between the bytes lent, the answer and the bytes afterwards: only the number of
-- places consulted is free. Refuses 3, 2, 8.
use Rattle.std.specs.Prelude.{ℕ, ◌+◌, ◌-◌, ◌*◌, ◌<◌, ◌≤◌, ◌≡◌, ◌⊎◌, ◌≢◌, Bool, true, false, List, length, ltb}
use Rattle.lists.specs.Lists.{pick, at, how_many, Bytes}
use Rattle.answer.specs.Answer.{Outcome, Counted, done, Ok, Err}
use Rattle.answer.specs.declared.Refusal.TheVariants.{Length, BadArchive, Unreadable}
use Rattle.answer.specs.Refusals.{refuse, differs}
use Rattle.sizes.specs.declared.Sizes.{Sizes}
use Rattle.vector.specs.Vectors.{product}
use Rattle.vector.specs.Taken.{Takes}
use Rattle.sizes.specs.Lengths.{place_count, file_length}
use Rattle.archive.specs.Layout.{sizes_of, mark_at, byte_in, bad_archive}

-- element i of the row of place number k, which stands at the end of its stored block
abbrev pub row_in : (z : Sizes) (s : List ℕ) (k i : ℕ) → ℕ
row_in z s k i = byte_in z s k (z.n + i)

-- a vector of m bytes, not all zero, that is orthogonal to the rows of all places, by number, that are named
pub record Blind (z : Sizes) (named : ℕ → Bool) (row : ℕ → ℕ → ℕ) : Type 0 where
  pub v : ℕ → ℕ
  pub bytes : (i : ℕ) → i < z.m → v i < 256
  pub one : ℕ
  pub one_there : one < z.m
  pub one_not : v one ≢ 0
  pub orthogonal : (k : ℕ) → k < place_count z → named k ≡ true → product z.m (row k) v ≡ 0

-- ---- the places taken, by node and then place

-- a file that solves the equations of the taken places: its m blocks of n - 2 bytes are the unknowns
pub record Solved (z : Sizes) (s file : List ℕ) : Type 0 where
  pub taken : ℕ → Bool
  pub takes : Takes z.m (row_in z s) (mark_at s) (place_count z) taken
  pub size : length file ≡ file_length z
  pub bytes : Bytes file
  pub solves : (k e : ℕ) → k < place_count z → taken k ≡ true → e < z.n - 2
      → product z.m (row_in z s k) (λ i. at file (i * (z.n - 2) + e)) ≡ byte_in z s k e

-- ---- the number of filled places consulted

-- place k is one of the first `count` filled places
abbrev pub among : (count : ℕ) (filled : ℕ → Bool) (k : ℕ) → Bool
among count filled k = pick (filled k) (ltb (how_many k filled) count) false

pub record Enough (z : Sizes) (filled : ℕ → Bool) (row : ℕ → ℕ → ℕ) (count : ℕ) : Type 0 where
  pub least : z.m ≤ count
  pub most : count ≤ how_many (place_count z) filled
  pub suffice : ¬ Blind z (among count filled) row

-- ---- refusals and the answer

abbrev pub read_before : (z : Sizes) (s out : List ℕ) → Outcome
read_before z s out = refuse (bad_archive s) BadArchive (refuse (differs (length out) (file_length z)) Length done)

-- refused: nothing is written; otherwise the number and the file
abbrev pub ReadFor : Sizes → List ℕ → List ℕ → Counted → List ℕ → Type 0
ReadFor z s out (Err r) written =
    (written ≡ out)
    × ((read_before z s out ≡ Err r) ⊎ ((read_before z s out ≡ done) × (r ≡ Unreadable) × Blind z (mark_at s) (row_in z s)))
ReadFor z s out (Ok count) written =
    (read_before z s out ≡ done) × (¬ Blind z (mark_at s) (row_in z s)) × Solved z s written × Enough z (mark_at s) (row_in z s) count

abbrev pub ReadAllows : (s out : List ℕ) (answer : Counted) (written : List ℕ) → Type 0
ReadAllows s out answer written = ReadFor (sizes_of s) s out answer written
