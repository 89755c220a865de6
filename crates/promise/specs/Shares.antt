-- Shares (SCHEME, Shares): nodes (the scheme: boxes) keep a share each, and what is gathered from them is the whole archive; demand 3 goes on from it.
use Rattle.std.specs.Prelude.{ℕ, ◌*◌, ◌<◌, ◌≡◌, true, false, not, List, [], ◌∷◌, length}
use Rattle.lists.specs.Lists.{flat, filtered, holds, Bytes}
use Rattle.answer.specs.Answer.{Outcome, done}
use Rattle.answer.specs.Refusals.{afterwards}
use Rattle.sizes.specs.declared.Sizes.{Sizes}
use Rattle.sizes.specs.Lengths.{archive_length}
use Rattle.archive.specs.Layout.{layout_of, sizes_of, bad_archive}
use Rattle.archive.specs.Open.{open_out}
use Rattle.archive.specs.Calls.{Call, archive_answers, archive_run, all_done}
use Rattle.archive.specs.Gather.{gather_for, gather_answer, gather_after}
use Rattle.archive.specs.Told.{sizes_answer, rows_answer, rows_out}
use Rattle.promise.specs.Table.{filled, Table, all_empty, is_filled, element, written, table_answers, table_run}
use Rattle.promise.specs.Image.{Setting}
use Rattle.promise.specs.Demand3.{Given, setting, Admitted, Demand}
use Rattle.promise.specs.Losing.{loses}
use Rattle.promise.specs.Fresh.{fresh_calls, new_archive}

-- ---- gathered is whole

-- the nodes of an archive that are none of these, rising
abbrev pub others : (s set : List ℕ) → List ℕ
others s set = filtered (sizes_of s).nodes (λ node. not (holds set node)) (λ node. node)

-- the archive with the nodes outside a set lost
abbrev pub keeping : (s set : List ℕ) → List ℕ
keeping s set = archive_run s (loses (others s set))

-- a node's share: every other node is lost
abbrev pub share_of : (s : List ℕ) (node : ℕ) → List ℕ
share_of s node = keeping s (node ∷ [])

-- the shares of these nodes of s are gathered, one after another
abbrev pub gather_run : (s into set : List ℕ) → List ℕ
gather_run s into [] = into
gather_run s into (node ∷ set) = gather_run s (gather_after into (share_of s node) node) set

-- each of these gathers is done
abbrev pub GathersDone : (s into set : List ℕ) → Type 0
GathersDone s into [] = Unit {0}
GathersDone s into (node ∷ set) = (gather_answer into (share_of s node) node ≡ done) × GathersDone s (gather_after into (share_of s node) node) set

-- a set of nodes in some order: none comes twice
abbrev pub EachOnce : (z : Sizes) (set : List ℕ) → Type 0
EachOnce z [] = Unit {0}
EachOnce z (node ∷ set) = (node < z.nodes) × (holds set node ≡ false) × EachOnce z set

pub record Whole (s set : List ℕ) : Type 0 where
  -- every Lose is done: for the archive that keeps no node, for a share, for the archive that keeps the set
  pub loses_done : (kept : List ℕ) → archive_answers s (loses (others s kept)) ≡ all_done (loses (others s kept))
  -- so is every Gather, and all bytes are then those of the archive that keeps the set
  pub gathers_done : GathersDone s (keeping s []) set
  pub bytes : gather_run s (keeping s []) set ≡ keeping s set
  -- all shares together give the archive itself
  pub all : ((node : ℕ) → node < (sizes_of s).nodes → holds set node ≡ true) → gather_run s (keeping s []) set ≡ s

-- for every archive that is not bad, whatever its records hold, and every set of its nodes, in any order
abbrev pub GatheredIsWhole : Type 0
GatheredIsWhole = (s set : List ℕ) → Bytes s → bad_archive s ≡ false → EachOnce (sizes_of s) set → Whole s set

-- ---- demand 3 goes on

-- the archive of a table whose rows have m bytes: a new one, whatever it was lent, with the rows encoded
pub record Follows (o : Setting) (t : Table) (archive : List ℕ) : Type 0 where
  pub rows : (node place : ℕ) (row : List ℕ) → t node place ≡ filled row → (length row ≡ o.z.m) × Bytes row
  pub bytes : (lent : List ℕ) → length lent ≡ archive_length o.z
      → archive ≡ archive_run (open_out o.layout o.z o.id lent) (fresh_calls o t)

-- what Gather answers by the table; a share of the same owner is not bad
abbrev pub table_gather : (z : Sizes) (t : Table) (node : ℕ) → Outcome
table_gather z t node = gather_for z (λ node place. is_filled (t node place)) node

-- the table after it: with u's rows in that node
abbrev pub table_gathered : (z : Sizes) (t u : Table) (node : ℕ) → Table
table_gathered z t u node = afterwards (table_gather z t node) t (written node 0 z.places (u node) t)

-- what holds of an archive that follows a table
pub record GoesOn (g : Given) (t : Table) (archive : List ℕ) : Type 0 where
  -- all of demand 3: this is the table and the archive after the Encodes of its rows
  pub demand : Demand g (fresh_calls (setting g) t) t archive
  -- calls from here: the answers are the table's, and the archive follows it
  pub calls : (calls : List Call) → Admitted g t calls
      → (archive_answers archive calls ≡ table_answers g.z t calls) × Follows (setting g) (table_run g.z t calls) (archive_run archive calls)
  -- a share that follows a table u of the same owner, gathered: the answer is the table's, and the archive follows t with u's rows in that node
  pub gathers : (u : Table) (share : List ℕ) (node : ℕ) → Follows (setting g) u share
      → (gather_answer archive share node ≡ table_gather g.z t node)
      × Follows (setting g) (table_gathered g.z t u node) (gather_after archive share node)
  -- Sizes tells what Open was given
  pub sizes : (sizes_answer archive ≡ done) × (layout_of archive ≡ g.layout) × (sizes_of archive ≡ g.z)
  -- Rows gives the table's rows of a node, zeros where a place is empty: those that Verdict takes
  pub rows : (node : ℕ) (out : List ℕ) → node < g.z.nodes → length out ≡ g.z.places * g.z.m
      → (rows_answer archive node out ≡ done)
      × (rows_out archive node out ≡ flat g.z.places g.z.m (λ place. element (t node place)))

-- every list of calls leaves an archive that follows its table; and whatever follows a table goes on so
abbrev pub Demand3GoesOn : Type 0
Demand3GoesOn =
    (g : Given)
    → ((calls : List Call) → Admitted g all_empty calls
    → Follows (setting g) (table_run g.z all_empty calls) (archive_run (new_archive g g.lent) calls))
    × ((t : Table) (archive : List ℕ) → Follows (setting g) t archive → GoesOn g t archive)
