-- Archives with the same rows in their filled places have the same plans. Assumes nothing.
use Prim.Native.Nat.{ℕ, ◌+◌, ◌*◌, ◌/◌, ◌%◌, ◌<◌}
use mathlib.Core.Path.{◌≡◌, refl, sym, ap, ◌∙◌}
use mathlib.Core.Logic.{⊎_elim, inl, inr}
use mathlib.Core.Bool.{false, not}
use mathlib.Core.List.{List}
use native.Mathlib.Nat.{div-lt_iff_lt-mul}
use lib.ListN.{length}
use borrow.Author.Tests.{leb-false, not-false}
use Rattle.lists.specs.Lists.{at, any_below}
use Rattle.lists.proofs.AnyLaws.{none_at, any_below_lem, any_same}
use Rattle.answer.specs.Answer.{done, Ok, Err}
use Rattle.answer.specs.declared.Refusal.TheVariants.{Size, Length, BadArchive, NoSuchPlace, PlaceEmpty}
use Rattle.answer.proofs.RefusalLaws.{accepted, refuse_same, inside}
use Rattle.field.specs.Field.{sum, times}
use Rattle.field.proofs.SumLaws.{sum_same}
use Rattle.sizes.specs.declared.Sizes.{Sizes}
use Rattle.sizes.specs.Lengths.{place_count, place_number}
use Rattle.sizes.proofs.PlaceLaws.{number_low}
use Rattle.vector.specs.Vectors.{mixed}
use Rattle.vector.proofs.TakenLaws.{Alike}
use Rattle.archive.specs.Layout.{sizes_of, mark_at}
use Rattle.archive.specs.Repair.{helper_missing, repair_byte}
use Rattle.archive.specs.Read.{row_in}
use Rattle.archive.specs.Plan.{repair_row, wanted_row, Planned, Unreachable, plan_before}
use Rattle.archive.proofs.GoodArchiveLaws.{good_sizes}
use Rattle.archive.proofs.PlanLaws.{planned_reaches, unreachable_alike, planned_alike}
use Rattle.promise.specs.Plans.{SameRows, PlanReadsRows}

module _ (s s' helpers : List ℕ) (q : ℕ) (gammas rows lent : List ℕ) (S : SameRows s s') where
  abbrev z : Sizes
  z = sizes_of s

  abbrev z' : Sizes
  z' = sizes_of s'

  -- the number of a helper's place
  helper_low : helper_missing z helpers ≡ false → (a l : ℕ) → a < length helpers → l < z.places → place_number z (at helpers a) l < place_count z
  helper_low e a l h hl = number_low z (good_sizes s S.good) (at helpers a) l (leb-false _ _ (any_below_lem _ _ e a h)) hl

  -- every test but 12
  before_same : plan_before s helpers q gammas rows lent ≡ plan_before s' helpers q gammas rows lent
  before_same =
      refuse_same _ _ BadArchive _ _ (S.good ∙ sym S.good') (λ _. refuse_same _ _ Size _ _ refl (λ _.
      refuse_same _ _ Length _ _ (rw (S.same_m, S.same_places)) (λ _. refuse_same _ _ NoSuchPlace _ _ (rw S.same_nodes) (λ n.
      refuse_same _ _ PlaceEmpty _ _
      (any_same (length helpers) _ _ (λ i h.
      any_same z.places _ _ (λ l hl. ap not (S.marks (place_number z (at helpers i) l) (helper_low n i l h hl)))
      ∙ ap (λ (x : ℕ). any_below x (λ l. not (mark_at s' (at helpers i * x + l)))) S.same_places))
      (λ _. refl)))))

  wanted_same : Alike z.places z.m (wanted_row z rows) (wanted_row z' rows)
  wanted_same k i h l = ap (λ (x : ℕ). at rows (k * x + i)) S.same_m

  module _ (done : plan_before s helpers q gammas rows lent ≡ done) where
    -- the helpers' rows, which are all filled, and the repair rows
    helper_same : (a l i : ℕ) → a < length helpers → l < z.places → i < z.m
        → row_in z s (place_number z (at helpers a) l) i ≡ row_in z' s' (place_number z (at helpers a) l) i
    helper_same a l i h hl =
        let nodes = accepted _ _ _ (accepted _ _ _ (accepted _ _ _ (accepted _ _ _ done).1).1).1 in
        let places = (accepted _ _ _ nodes.1).0 in
        S.rows (place_number z (at helpers a) l) i (helper_low nodes.0 a l h hl) (not-false _ (any_below_lem _ _ (any_below_lem _ _ places a h) l hl))

    repair_same : Alike (length helpers * q) z.m (repair_row z s helpers q gammas) (repair_row z' s' helpers q gammas)
    unfolding repair_byte mixed
    repair_same t i h hi =
        let low = (inside 1 _ q (none_at _ 1 (accepted _ _ _ (accepted _ _ _ done).1).0)).0 in
        sum_same z.places _ _ (λ l hl. ap (times _) (helper_same (t / q) l i ((div-lt_iff_lt-mul {k = q} low).1 h) hl hi))
        ∙ ap (λ (x : ℕ). sum x (λ l. times (at gammas ((t / q * q + t % q) * x + l)) (row_in z' s' (at helpers (t / q) * x + l) i))) S.same_places

    -- what the rows rule out, and what they allow
    unreachable : Unreachable z (length helpers * q) (repair_row z s helpers q gammas) (wanted_row z rows)
        → Unreachable z' (length helpers * q) (repair_row z' s' helpers q gammas) (wanted_row z' rows)
    unreachable = unreachable_alike z z' (length helpers * q) _ _ _ _ S.same_m S.same_places repair_same wanted_same

    planned : (thetas : List ℕ) → Planned z (length helpers * q) (repair_row z s helpers q gammas) (wanted_row z rows) thetas
        → Planned z' (length helpers * q) (repair_row z' s' helpers q gammas) (wanted_row z' rows) thetas
    planned = planned_alike z z' (length helpers * q) _ _ _ _ S.same_m S.same_places repair_same wanted_same

pub plan_reads_rows : PlanReadsRows
plan_reads_rows s s' helpers q gammas rows lent (Err r) thetas S w =
    let same = before_same s s' helpers q gammas rows lent S in
    let ruled_out = unreachable s s' helpers q gammas rows lent S in
    (w.0, ⊎_elim (λ a. inl (sym same ∙ a)) (λ a. inr (sym same ∙ a.0, a.1, ruled_out a.0 a.2)) w.1)
plan_reads_rows s s' helpers q gammas rows lent (Ok _) thetas S w =
    let plan = planned s s' helpers q gammas rows lent S w.0 thetas w.2 in
    (sym (before_same s s' helpers q gammas rows lent S) ∙ w.0, planned_reaches (sizes_of s') (length helpers * q) _ _ thetas plan, plan)
