-- Repair, given planned thetas, is done and gives the wanted rows; where 12 is the answer, it gives them by no thetas. Assumes nothing.
use Prim.Native.Nat.{ℕ, ◌+◌, ◌*◌, ◌<◌}
use mathlib.Core.Path.{◌≡◌, refl, sym, ap, ◌∙◌}
use mathlib.Core.Logic.{◌≢◌, ⊎_elim}
use mathlib.Core.Bool.{true, false}
use mathlib.Core.List.{List}
use native.Mathlib.Omega.{arith}
use lib.ListN.{length}
use borrow.Author.Tests.{lt-leb}
use Rattle.lists.proofs.AnyLaws.{none_at, any_skip, any_last, any_none}
use Rattle.lists.proofs.OverLaws.{over_within}
use Rattle.answer.specs.Answer.{done, Err}
use Rattle.answer.specs.declared.Refusal.TheVariants.{Size, Length, BadArchive, NoSuchPlace, PlaceEmpty, PlaceFilled, NoPlan}
use Rattle.answer.proofs.RefusalLaws.{accepted, passed, skipped, never_both, inside, differs_same, after_done}
use Rattle.sizes.specs.declared.Sizes.{Sizes}
use Rattle.sizes.specs.Lengths.{record_length, place_number}
use Rattle.sizes.proofs.SizeLaws.{Ranged}
use Rattle.sizes.proofs.PlaceLaws.{number_low, count_low}
use Rattle.vector.specs.Vectors.{mixed}
use Rattle.archive.specs.Layout.{sizes_of, mark_at, filled_in, byte_in, bad_archive}
use Rattle.archive.specs.Repair.{repair_byte, target_byte}
use Rattle.archive.specs.Calls.{Call, repair, answer_for, archive_answer, effect_for, archive_after}
use Rattle.archive.specs.Read.{row_in}
use Rattle.archive.specs.Plan.{repair_row, wanted_row, theta_in, plan_before, PlanAllows}
use Rattle.archive.proofs.GoodArchiveLaws.{good_sizes, good_length}
use Rattle.archive.proofs.MarkLaws.{stored_mark}
use Rattle.archive.proofs.RepairedLaws.{repaired_rows, target_mixed}
use Rattle.archive.proofs.PlanLaws.{given_reached}
use Rattle.promise.specs.Plans.{PlannedRepair, NoThetas}

-- the rows that Repair gives are the repair rows combined by the thetas
given_rows : (s helpers : List ℕ) (q : ℕ) (gammas thetas : List ℕ) (target scratch : ℕ)
    → archive_answer s (repair target helpers q gammas thetas scratch) ≡ done → (k i : ℕ) → k < (sizes_of s).places → i < (sizes_of s).m
    → mixed (length helpers * q) (λ t. theta_in (sizes_of s) thetas t k) (repair_row (sizes_of s) s helpers q gammas) i
    ≡ row_in (sizes_of s) (archive_after s (repair target helpers q gammas thetas scratch)) (place_number (sizes_of s) target k) i
unfolding archive_answer answer_for mixed target_byte repair_byte byte_in
given_rows s helpers q gammas thetas target scratch is k i h l =
    let z : Sizes = sizes_of s in
    let low = (inside 1 _ q (none_at _ 1 (accepted _ _ _ (accepted _ _ _ is).1).0)).0 in
    target_mixed z s helpers q gammas thetas k (z.n + i) low ∙ sym (repaired_rows s target helpers q gammas thetas scratch is k i h l)

-- ---- what was planned

module _ (s helpers : List ℕ) (q : ℕ) (gammas rows lent thetas : List ℕ) (target : ℕ) (plan : PlanAllows s helpers q gammas rows lent done thetas)
    (there : target < (sizes_of s).nodes) (empty : (k : ℕ) → k < (sizes_of s).places → filled_in (sizes_of s) s target k ≡ false) where
  abbrev z : Sizes
  z = sizes_of s

  abbrev call : Call
  call = repair target helpers q gammas thetas (length helpers * q * record_length z)

  good : bad_archive s ≡ false
  good = (accepted _ _ _ plan.0).0

  ranged : Ranged z
  ranged = good_sizes s good

  -- Plan's tests are Repair's, but for the thetas, the scratch buffer and the target
  repairs : archive_answer s call ≡ done
  unfolding archive_answer answer_for
  repairs =
      let counts = accepted _ _ _ (accepted _ _ _ plan.0).1 in
      let lengths = accepted _ _ _ counts.1 in
      let nodes = accepted _ _ _ lengths.1 in
      let places = accepted _ _ _ nodes.1 in
      passed BadArchive _ good ∙ passed Size _ counts.0
      ∙ passed Length _
      (any_skip _ _ (none_at _ 0 lengths.0) ∙ any_skip _ _ (differs_same plan.2.size) ∙ any_last _
      ∙ differs_same {a = length helpers * q * record_length z} refl)
      ∙ passed NoSuchPlace _ (any_skip _ _ (lt-leb _ _ there) ∙ any_last _ ∙ nodes.0)
      ∙ passed PlaceFilled _ (any_none z.places _ empty) ∙ passed PlaceEmpty _ places.0

  filled : (k : ℕ) → k < z.places → filled_in z (archive_after s call) target k ≡ true
  unfolding archive_after effect_for
  filled k h =
      ap (λ (t : List ℕ). filled_in z t target k) (after_done _ _ repairs)
      ∙ stored_mark z (λ j. true) (place_number z target 0) z.places _ s (place_number z target k) (omega (arith, good_length s good))
      (omega (arith, number_low z ranged target k there h, count_low z ranged))
      ∙ over_within (place_number z target 0) z.places _ (mark_at s) (place_number z target k) (omega arith) (omega arith)

  holds : (k i : ℕ) → k < z.places → i < z.m → row_in z (archive_after s call) (place_number z target k) i ≡ wanted_row z rows k i
  holds k i h l = sym (given_rows s helpers q gammas thetas target _ repairs k i h l) ∙ plan.2.gives k i h l

pub planned_repair : PlannedRepair
planned_repair s helpers q gammas rows lent thetas target plan there empty =
    record {
      done = repairs s helpers q gammas rows lent thetas target plan there empty;
      filled = filled s helpers q gammas rows lent thetas target plan there empty;
      holds = holds s helpers q gammas rows lent thetas target plan there empty;
    }

-- ---- where no plan is found

-- 12 comes of no other test
not_before : (s helpers : List ℕ) (q : ℕ) (gammas rows lent : List ℕ) → plan_before s helpers q gammas rows lent ≢ Err NoPlan
not_before s helpers q gammas rows lent e =
    never_both refl
    (skipped _ PlaceEmpty _ (λ w. omega arith) (skipped _ NoSuchPlace _ (λ w. omega arith)
    (skipped _ Length _ (λ w. omega arith) (skipped _ Size _ (λ w. omega arith) (skipped _ BadArchive _ (λ w. omega arith) e)))))

pub no_thetas : NoThetas
no_thetas s helpers q gammas rows lent written refused thetas target scratch g =
    ⊎_elim (not_before s helpers q gammas rows lent)
    (λ a.
    given_reached (sizes_of s) (length helpers * q) _ _ _
    (λ k i h l. given_rows s helpers q gammas thetas target scratch g.done k i h l ∙ g.holds k i h l) a.2) refused.1
