-- Plan's answer and its thetas are fixed. Assumes nothing.
use Prim.Native.Nat.{ℕ, ◌*◌}
use mathlib.Core.Path.{◌≡◌, refl, sym, ap, ◌∙◌}
use mathlib.Core.Logic.{⊎_elim}
use mathlib.Core.List.{List}
use lib.ListN.{length}
use Rattle.answer.specs.declared.Refusal.{Refusal}
use Rattle.answer.specs.Answer.{done, Ok, Err}
use Rattle.answer.proofs.RefusalLaws.{never_both, same_refusal}
use Rattle.archive.specs.Layout.{sizes_of}
use Rattle.archive.specs.Plan.{PlanAllows}
use Rattle.archive.proofs.PlanLaws.{repair_low, planned_only}
use Rattle.promise.specs.Plans.{PlanIsFixed}

module _ (s helpers : List ℕ) (q : ℕ) (gammas rows lent thetas thetas' : List ℕ) where
  -- NoPlan is answered just where every other test passed and some vector rules a plan out
  refusals_same : {r r' : Refusal} → PlanAllows s helpers q gammas rows lent (Err r) thetas
      → PlanAllows s helpers q gammas rows lent (Err r') thetas' → r ≡ r'
  refusals_same w w' =
      ⊎_elim
      (λ a. ⊎_elim (λ b. same_refusal a b) (λ b. absurd (never_both b.0 a)) w'.1)
      (λ a. ⊎_elim (λ b. absurd (never_both a.0 b)) (λ b. a.1 ∙ sym b.1) w'.1)
      w.1

  not_both : {r : Refusal} → PlanAllows s helpers q gammas rows lent done thetas → PlanAllows s helpers q gammas rows lent (Err r) thetas' → ⊥
  not_both w w' = ⊎_elim (λ a. never_both w.0 a) (λ a. w.1 a.2) w'.1

  thetas_same : PlanAllows s helpers q gammas rows lent done thetas → PlanAllows s helpers q gammas rows lent done thetas' → thetas ≡ thetas'
  thetas_same w w' = planned_only (sizes_of s) (length helpers * q) _ _ thetas thetas' (repair_low (sizes_of s) s helpers q gammas) w.2 w'.2

pub plan_is_fixed : PlanIsFixed
plan_is_fixed s helpers q gammas rows lent (Ok _) (Ok _) thetas thetas' w w' = (refl, thetas_same s helpers q gammas rows lent thetas thetas' w w')
plan_is_fixed s helpers q gammas rows lent (Ok _) (Err r) thetas thetas' w w' = absurd (not_both s helpers q gammas rows lent thetas thetas' w w')
plan_is_fixed s helpers q gammas rows lent (Err r) (Ok _) thetas thetas' w w' = absurd (not_both s helpers q gammas rows lent thetas' thetas w' w)
plan_is_fixed s helpers q gammas rows lent (Err r) (Err r') thetas thetas' w w' =
    (ap Err (refusals_same s helpers q gammas rows lent thetas thetas' w w'), w.0 ∙ sym w'.0)
