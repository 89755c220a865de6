-- What Plan's check finds, and what is known where it refuses nothing. Assumes nothing.
use Prim.Native.Nat.{ℕ, ◌*◌, ◌≤◌}
use mathlib.Core.Path.{◌≡◌, refl, sym, ap, subst, ◌∙◌}
use mathlib.Core.Logic.{inl}
use mathlib.Core.Bool.{false}
use mathlib.Core.List.{List}
use lib.ListN.{length}
use Rattle.lists.proofs.AnyLaws.{none_at}
use Rattle.answer.specs.Answer.{Outcome, Err}
use Rattle.answer.specs.declared.Refusal.{Refusal}
use Rattle.answer.specs.Refusals.{Passed}
use Rattle.answer.proofs.RefusalLaws.{accepted, passed, same, inside}
use Rattle.sizes.specs.declared.Sizes.{Sizes}
use Rattle.sizes.specs.Lengths.{archive_length, helpers_most, sent_most}
use Rattle.sizes.proofs.SizeLaws.{Ranged}
use Rattle.archive.specs.Layout.{sizes_of, filled_in, bad_archive}
use Rattle.archive.specs.Repair.{coefficient_count, helper_missing}
use Rattle.archive.specs.Plan.{plan_for, plan_before, PlanAllows}
use Rattle.archive.proofs.GoodArchiveLaws.{good_sizes, good_length}

-- what is known where nothing is refused before 12
pub record Plannable (z : Sizes) (s helpers : List ℕ) (q : ℕ) (gammas rows thetas : List ℕ) : Type 0 where
  pub sizes : Ranged z
  pub long : length s ≡ archive_length z
  pub helpers_high : length helpers ≤ helpers_most
  pub q_low : 1 ≤ q
  pub q_high : q ≤ sent_most
  pub gammas_length : length gammas ≡ coefficient_count z helpers q
  pub rows_length : length rows ≡ z.places * z.m
  pub thetas_length : length thetas ≡ coefficient_count z helpers q
  pub present : helper_missing z helpers ≡ false

module _ (s helpers : List ℕ) (q : ℕ) (gammas rows thetas : List ℕ) where
  -- the answer, for the sizes as they were read
  pub answered : {z : Sizes} → z ≡ sizes_of s → bad_archive s ≡ false → {o : Outcome} → o ≡ plan_for z (filled_in z s) helpers q gammas rows thetas
      → o ≡ plan_before s helpers q gammas rows thetas
  answered read good e = e ∙ ap (λ (x : Sizes). plan_for x (filled_in x s) helpers q gammas rows thetas) read ∙ sym (passed _ _ good)

  accepted_plan : Passed (plan_before s helpers q gammas rows thetas) → Plannable (sizes_of s) s helpers q gammas rows thetas
  accepted_plan ok =
      let a = accepted _ _ _ ok in
      let n = accepted _ _ _ a.1 in
      let Q = inside 1 sent_most q (none_at _ 1 n.0) in
      let l = accepted _ _ _ n.1 in
      record {
        sizes = good_sizes s a.0;
        long = good_length s a.0;
        helpers_high = (inside 1 helpers_most (length helpers) (none_at _ 0 n.0)).1;
        q_low = Q.0;
        q_high = Q.1;
        gammas_length = same _ _ (none_at _ 0 l.0);
        rows_length = same _ _ (none_at _ 1 l.0);
        thetas_length = same _ _ (none_at _ 2 l.0);
        present = (accepted _ _ _ l.1).0;
      }

  pub plannable : {z : Sizes} → z ≡ sizes_of s → Passed (plan_before s helpers q gammas rows thetas) → Plannable z s helpers q gammas rows thetas
  plannable read ok = rw read (accepted_plan ok)

  -- a refusal of the check is Plan's
  pub refused_before : {o : Outcome} {r : Refusal} → o ≡ plan_before s helpers q gammas rows thetas → o ≡ Err r → PlanAllows s helpers q gammas rows thetas o thetas
  refused_before {r = r} is refusal =
      subst (λ (o : Outcome). PlanAllows s helpers q gammas rows thetas o thetas) (sym refusal) (refl, inl (sym is ∙ refusal))
