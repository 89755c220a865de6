-- The row table (SCHEME, Row table): the plain machine of demand 3. It knows sizes, rows, and a call's numbers and lengths; nothing of an
-- archive's bytes is in it.
use Rattle.std.specs.Prelude.{ℕ, ◌/◌, ◌%◌, Bool, true, false, List, [], ◌∷◌, eqb, ltb}
use Rattle.lists.specs.Lists.{pick, at, tab, over}
use Rattle.answer.specs.Answer.{Outcome}
use Rattle.answer.specs.Refusals.{afterwards}
use Rattle.sizes.specs.declared.Sizes.{Sizes}
use Rattle.sizes.specs.Lengths.{place_count}
use Rattle.archive.specs.Calls.{Call, encode, lose, repair, answer_for}
use Rattle.archive.specs.Repair.{repair_sum}

-- what a place holds
pub data Place : Type 0 where
  empty : Place
  filled : List ℕ → Place

-- by node (the scheme: box) and place
abbrev pub Table : Type 0
Table = ℕ → ℕ → Place

abbrev pub all_empty : Table
all_empty node place = empty

abbrev pub is_filled : Place → Bool
is_filled empty = false
is_filled (filled row) = true

-- element i of a place's row; zeros for an empty place
abbrev pub element : Place → ℕ → ℕ
element empty i = 0
element (filled row) i = at row i

-- the place with number k, by node and then place; empty past the last
unfoldable pub numbered : (z : Sizes) (t : Table) (k : ℕ) → Place
numbered z t k = pick (ltb k (place_count z)) (t (k / z.places) (k % z.places)) empty

-- the answer of a call: the archive's, by the places that are filled here; a table is never bad
abbrev pub table_answer : (z : Sizes) (t : Table) (c : Call) → Outcome
table_answer z t c = answer_for z (λ node place. is_filled (t node place)) c

-- the row that Repair gives target place k
unfoldable pub repaired_row : (z : Sizes) (t : Table) (helpers : List ℕ) (q : ℕ) (gammas thetas : List ℕ) (k : ℕ) → List ℕ
repaired_row z t helpers q gammas thetas k = tab z.m (λ i. repair_sum z helpers q gammas thetas k (λ node l. element (t node l) i))

-- the table with new j at the j-th of `count` places of a node, from a place on
unfoldable pub written : ℕ → ℕ → ℕ → (ℕ → Place) → Table → Table
written node place count new t node' place' = pick (eqb node' node) (over place count new (t node) place') (t node' place')

-- what an accepted call makes of the table
abbrev pub table_effect : Sizes → Table → Call → Table
table_effect z t (encode node place file padding key row) = written node place 1 (λ j. filled row) t
table_effect z t (lose node) = written node 0 z.places (λ j. empty) t
table_effect z t (repair target helpers q gammas thetas scratch) =
    written target 0 z.places (λ k. filled (repaired_row z t helpers q gammas thetas k)) t

-- the table after a call
abbrev pub table_after : (z : Sizes) (t : Table) (c : Call) → Table
table_after z t c = afterwards (table_answer z t c) t (table_effect z t c)

abbrev pub table_answers : Sizes → Table → List Call → List Outcome
table_answers z t [] = []
table_answers z t (c ∷ cs) = table_answer z t c ∷ table_answers z (table_after z t c) cs

abbrev pub table_run : Sizes → Table → List Call → Table
table_run z t [] = t
table_run z t (c ∷ cs) = table_run z (table_after z t c) cs
