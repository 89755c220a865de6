-- What stands beside Plan: it leaves nothing free, Repair gives what was planned, and of an archive only rows are read.
use Rattle.std.specs.Prelude.{ℕ, ◌*◌, ◌<◌, ◌≡◌, true, false, List, length}
use Rattle.answer.specs.Answer.{Outcome, done, Err}
use Rattle.answer.specs.declared.Refusal.TheVariants.{NoPlan}
use Rattle.sizes.specs.Lengths.{record_length, place_count, place_number}
use Rattle.archive.specs.Layout.{sizes_of, mark_at, filled_in, bad_archive}
use Rattle.archive.specs.Calls.{Call, repair, archive_answer, archive_after}
use Rattle.archive.specs.Read.{row_in}
use Rattle.archive.specs.Plan.{wanted_row, PlanAllows}

-- one answer, and one list of thetas
abbrev pub PlanIsFixed : Type 0
PlanIsFixed =
    (s helpers : List ℕ) (q : ℕ) (gammas rows lent : List ℕ) (a a' : Outcome) (thetas thetas' : List ℕ)
    → PlanAllows s helpers q gammas rows lent a thetas → PlanAllows s helpers q gammas rows lent a' thetas'
    → (a ≡ a') × (thetas ≡ thetas')

-- a call of Repair on s is done, and the target's places are filled then and hold these rows
pub record Gives (s rows : List ℕ) (target : ℕ) (call : Call) : Type 0 where
  pub done : archive_answer s call ≡ done
  pub filled : (k : ℕ) → k < (sizes_of s).places → filled_in (sizes_of s) (archive_after s call) target k ≡ true
  pub holds : (k i : ℕ) → k < (sizes_of s).places → i < (sizes_of s).m
      → row_in (sizes_of s) (archive_after s call) (place_number (sizes_of s) target k) i ≡ wanted_row (sizes_of s) rows k i

-- planned thetas, handed to Repair, give the wanted rows: to any target whose places are empty, with a scratch buffer of the right length,
-- whatever the records hold
abbrev pub PlannedRepair : Type 0
PlannedRepair =
    (s helpers : List ℕ) (q : ℕ) (gammas rows lent thetas : List ℕ) (target : ℕ)
    → PlanAllows s helpers q gammas rows lent done thetas
    → target < (sizes_of s).nodes → ((k : ℕ) → k < (sizes_of s).places → filled_in (sizes_of s) s target k ≡ false)
    → Gives s rows target (repair target helpers q gammas thetas (length helpers * q * record_length (sizes_of s)))

-- and where 12 is the answer, no thetas give them, to any target and with any scratch buffer
abbrev pub NoThetas : Type 0
NoThetas =
    (s helpers : List ℕ) (q : ℕ) (gammas rows lent written : List ℕ) → PlanAllows s helpers q gammas rows lent (Err NoPlan) written
    → (thetas : List ℕ) (target scratch : ℕ) → ¬ Gives s rows target (repair target helpers q gammas thetas scratch)

-- two archives that are not bad and have the same m, places and nodes, the same marks, and the same stored rows in filled places; layout,
-- n, number of tags, id and all other bytes may differ
pub record SameRows (s s' : List ℕ) : Type 0 where
  pub good : bad_archive s ≡ false
  pub good' : bad_archive s' ≡ false
  pub same_m : (sizes_of s).m ≡ (sizes_of s').m
  pub same_places : (sizes_of s).places ≡ (sizes_of s').places
  pub same_nodes : (sizes_of s).nodes ≡ (sizes_of s').nodes
  pub marks : (k : ℕ) → k < place_count (sizes_of s) → mark_at s k ≡ mark_at s' k
  pub rows : (k i : ℕ) → k < place_count (sizes_of s) → mark_at s k ≡ true → i < (sizes_of s).m
      → row_in (sizes_of s) s k i ≡ row_in (sizes_of s') s' k i

-- have the same plans
abbrev pub PlanReadsRows : Type 0
PlanReadsRows =
    (s s' helpers : List ℕ) (q : ℕ) (gammas rows lent : List ℕ) (a : Outcome) (thetas : List ℕ) → SameRows s s'
    → PlanAllows s helpers q gammas rows lent a thetas → PlanAllows s' helpers q gammas rows lent a thetas
