-- A plan on the worked archive of two rows, and one that there is not. Assumes nothing.
use Prim.Native.Nat.{ℕ, zero, suc, ◌<◌}
use mathlib.Core.Path.{◌≡◌, refl, sym, ap, subst, ◌∙◌}
use mathlib.Core.Logic.{◌≢◌, inr}
use mathlib.Core.List.{[], ◌∷◌}
use native.Mathlib.Omega.{arith}
use Rattle.lists.specs.Lists.{at, any_of, any_below}
use Rattle.answer.specs.Answer.{done, Err}
use Rattle.answer.specs.declared.Refusal.TheVariants.{NoPlan}
use Rattle.answer.specs.Refusals.{refuse, outside}
use Rattle.field.specs.Field.{sum, times, xtimes, xtime, modulus}
use Rattle.field.proofs.TimesLaws.{times_zero}
use Rattle.bits.specs.Fields.{number, bit_at, field_at}
use Rattle.sizes.specs.declared.Sizes.{Sizes}
use Rattle.sizes.specs.Sizes.{sizes_outside}
use Rattle.vector.specs.Vectors.{product, mixed}
use Rattle.vector.specs.Taken.{Spanned}
use Rattle.archive.specs.Layout.{layout_outside, tag_field, layout_of, sizes_of, mark_at, byte_in, bad_for}
use Rattle.archive.specs.Repair.{repair_byte}
use Rattle.archive.specs.Plan.{repair_row, wanted_row, theta_in, Planned, Unreachable, plan_before, PlanAnswer, PlanAllows}
use Rattle.archive.proofs.PlanLaws.{planned_reaches}
use Rattle.promise.specs.Worked as W
use Rattle.promise.proofs.Each.{bytes_each}
use Rattle.promise.proofs.Worked.{two_sizes}

-- ---- boxes 0 and 2, one block each

abbrev row : ℕ → ℕ → ℕ
row = repair_row W.z W.two (0 ∷ 2 ∷ []) 1 (1 ∷ 1 ∷ [])

before : plan_before W.two (0 ∷ 2 ∷ []) 1 (1 ∷ 1 ∷ []) (0 ∷ 3 ∷ []) (0 ∷ 0 ∷ []) ≡ done
unfolding refuse bad_for layout_outside tag_field layout_of sizes_outside outside any_of any_below sizes_of field_at bit_at number mark_at
before = refl

gives : (k i : ℕ) → k < 1 → i < 2 → mixed 2 (λ t. theta_in W.z (2 ∷ 1 ∷ []) t k) row i ≡ wanted_row W.z (0 ∷ 3 ∷ []) k i
unfolding mixed sum repair_byte byte_in times xtimes xtime modulus
gives zero zero h l = refl
gives zero (suc zero) h l = refl
gives zero (suc (suc i)) h l = absurd (omega arith)
gives (suc k) i h l = absurd (omega arith)

first_apart : ¬ Spanned 0 2 row (row 0)
unfolding mixed sum repair_byte byte_in times xtimes xtime modulus
first_apart c = let e : ◌≡◌ {A = ℕ} 1 0 = c.1 0 (omega arith) in omega arith

elements : (row 0 1 ≡ 0) × (row 1 1 ≡ 3)
unfolding mixed sum repair_byte byte_in times xtimes xtime modulus
elements = (refl, refl)

second_apart : ¬ Spanned 1 2 row (row 1)
unfolding mixed sum
second_apart c =
    let e : row 1 1 ≡ times (c.0 0) (row 0 1) = c.1 1 (omega arith) in
    let q : ◌≡◌ {A = ℕ} 3 0 = sym elements.1 ∙ e ∙ ap (times (c.0 0)) elements.0 ∙ times_zero (c.0 0) in
    omega arith

two_planned : Planned W.z 2 row (wanted_row W.z (0 ∷ 3 ∷ [])) (2 ∷ 1 ∷ [])
two_planned =
    record {
      size = refl;
      bytes = bytes_each (2 ∷ 1 ∷ []) (omega arith, (omega arith, tt));
      gives = gives;
      unused = unused;
    }
  where
    unused : (t : ℕ) → t < 2 → Spanned t 2 row (row t) → (k : ℕ) → k < 1 → theta_in W.z (2 ∷ 1 ∷ []) t k ≡ 0
    unused zero h s k l = absurd (first_apart s)
    unused (suc zero) h s k l = absurd (second_apart s)
    unused (suc (suc t)) h s k l = absurd (omega arith)

pub planned_two : PlanAllows W.two (0 ∷ 2 ∷ []) 1 (1 ∷ 1 ∷ []) (0 ∷ 3 ∷ []) (0 ∷ 0 ∷ []) done (2 ∷ 1 ∷ [])
planned_two =
    subst (λ (z : Sizes).
    PlanAnswer (plan_before W.two (0 ∷ 2 ∷ []) 1 (1 ∷ 1 ∷ []) (0 ∷ 3 ∷ []) (0 ∷ 0 ∷ [])) z 2 (repair_row z W.two (0 ∷ 2 ∷ []) 1 (1 ∷ 1 ∷ []))
    (wanted_row z (0 ∷ 3 ∷ [])) (0 ∷ 0 ∷ []) done (2 ∷ 1 ∷ [])) (sym two_sizes)
    (before, planned_reaches W.z 2 row _ (2 ∷ 1 ∷ []) two_planned, two_planned)

-- ---- box 0 alone

alone : plan_before W.two (0 ∷ []) 1 (1 ∷ []) (0 ∷ 3 ∷ []) (0 ∷ []) ≡ done
unfolding refuse bad_for layout_outside tag_field layout_of sizes_outside outside any_of any_below sizes_of field_at bit_at number mark_at
alone = refl

orthogonal : (t : ℕ) → t < 1 → product 2 (repair_row W.z W.two (0 ∷ []) 1 (1 ∷ []) t) (at (0 ∷ 1 ∷ [])) ≡ 0
unfolding product mixed sum repair_byte byte_in times xtimes xtime modulus
orthogonal zero h = refl
orthogonal (suc t) h = absurd (omega arith)

not_orthogonal : product 2 (wanted_row W.z (0 ∷ 3 ∷ []) 0) (at (0 ∷ 1 ∷ [])) ≢ 0
unfolding product sum times xtimes xtime modulus
not_orthogonal e = let q : ◌≡◌ {A = ℕ} 3 0 = e in omega arith

unreached : Unreachable W.z 1 (repair_row W.z W.two (0 ∷ []) 1 (1 ∷ [])) (wanted_row W.z (0 ∷ 3 ∷ []))
unreached =
    record {
      v = at (0 ∷ 1 ∷ []);
      bytes = bytes_each (0 ∷ 1 ∷ []) (omega arith, (omega arith, tt));
      orthogonal = orthogonal;
      place = 0;
      there = omega arith;
      not_orthogonal = not_orthogonal;
    }

pub unplanned_one : PlanAllows W.two (0 ∷ []) 1 (1 ∷ []) (0 ∷ 3 ∷ []) (0 ∷ []) (Err NoPlan) (0 ∷ [])
unplanned_one =
    subst (λ (z : Sizes).
    PlanAnswer (plan_before W.two (0 ∷ []) 1 (1 ∷ []) (0 ∷ 3 ∷ []) (0 ∷ [])) z 1 (repair_row z W.two (0 ∷ []) 1 (1 ∷ [])) (wanted_row z (0 ∷ 3 ∷ [])) (0 ∷ [])
    (Err NoPlan) (0 ∷ [])) (sym two_sizes) (refl, inr (alone, refl, unreached))
