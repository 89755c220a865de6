-- What is promised of Repair on any archive that is not bad, damaged records included.
use Rattle.std.specs.Prelude.{ℕ, ◌<◌, ◌≡◌, List}
use Rattle.answer.specs.Answer.{done}
use Rattle.sizes.specs.Lengths.{place_number}
use Rattle.archive.specs.Layout.{sizes_of}
use Rattle.archive.specs.Calls.{repair, archive_answer, archive_after}
use Rattle.archive.specs.Repair.{repair_sum}
use Rattle.archive.specs.Read.{row_in}

-- rows are combined as data is: the stored rows of the target's places are the helpers' stored rows combined
abbrev pub RepairedRows : Type 0
RepairedRows =
    (s : List ℕ) (target : ℕ) (helpers : List ℕ) (q : ℕ) (gammas thetas : List ℕ) (scratch : ℕ)
    → archive_answer s (repair target helpers q gammas thetas scratch) ≡ done
    → (k i : ℕ) → k < (sizes_of s).places → i < (sizes_of s).m
    → row_in (sizes_of s) (archive_after s (repair target helpers q gammas thetas scratch)) (place_number (sizes_of s) target k) i
    ≡ repair_sum (sizes_of s) helpers q gammas thetas k (λ node l. row_in (sizes_of s) s (place_number (sizes_of s) node l) i)
