-- What Plan answers, from the steps of its code. Assumes nothing.
use Prim.Native.Nat.{ℕ, ◌+◌, ◌*◌, ◌<◌, ◌≤◌}
use mathlib.Core.Path.{◌≡◌, refl, ap, subst, ◌∙◌}
use mathlib.Core.Logic.{inr}
use mathlib.Core.Bool.{true, false}
use mathlib.Core.List.{List}
use native.Mathlib.Nat.{mul-le-mul}
use native.Mathlib.Omega.{arith}
use lib.ListN.{length, replicate, get_or-replicate}
use Rattle.lists.specs.Lists.{at, grid}
use Rattle.answer.specs.Answer.{done, Err}
use Rattle.answer.specs.declared.Refusal.TheVariants.{NoPlan}
use Rattle.answer.specs.Refusals.{Passed}
use Rattle.sizes.specs.declared.Sizes.{Sizes}
use Rattle.vector.specs.Vectors.{product}
use Rattle.linear.specs.PrivateElimination.{Matrix, cells, Reduces, turned}
use Rattle.linear.proofs.AlikeLaws.{reduces_same}
use Rattle.choice.specs.declared.Chosen.{Chosen}
use Rattle.choice.specs.PrivateStanding.{Standing}
use Rattle.choice.specs.PrivateChoice.{offered, listed_rows, WholeChoice}
use Rattle.choice.proofs.WholeLaws.{whole_alike}
use Rattle.archive.specs.Layout.{sizes_of}
use Rattle.archive.specs.Plan.{repair_row, wanted_row, plan_before, PlanAnswer, PlanAllows}
use Rattle.archive.proofs.PlanLaws.{repair_low, planned_reaches}
use Rattle.planning.specs.PrivatePlan.{row_for, Reaching}
use Rattle.planning.proofs.CheckLaws.{Plannable}
use Rattle.planning.proofs.ChosenLaws.{unreachable, planned}

-- rows one after another stand in a buffer for forty rows of sixteen elements
pub standing : (count m : ℕ) (u : List ℕ) → count ≤ 40 → m ≤ 16 → length u ≡ 640 → Standing 0 m count m u
standing count m u few width long =
    (omega arith, width, λ k h. omega (arith, long, mul-le-mul {n₁ = k + 1} {m₁ = m} {n₂ = 40} {m₂ = 16} (omega arith) width))

-- they are read as row_at does
abbrev pub one_after_another : (u : List ℕ) (m : ℕ) → Matrix
one_after_another u m t i = at u (0 + t * m + i)

module _ (z : Sizes) (s helpers : List ℕ) (q : ℕ) (gammas : List ℕ) where
  abbrev count : ℕ
  count = length helpers * q

  abbrev row : Matrix
  row = repair_row z s helpers q gammas

  module _ (sent : List ℕ) (few : count ≤ 40) (made : (t i : ℕ) → t < count → i < z.m → at sent (t * z.m + i) ≡ row t i) (c : Chosen)
      (chose : WholeChoice count z.m (one_after_another sent z.m) (offered (replicate 48 true)) c) where
    sent_row : (t i : ℕ) → t < count → i < z.m → one_after_another sent z.m t i ≡ row t i
    sent_row t i h l = let from : 0 + t * z.m + i ≡ t * z.m + i = omega arith in ap (at sent) from ∙ made t i h l

    -- the choice among the repair rows, all of which are candidates
    pub chosen : WholeChoice count z.m row (λ j. true) c
    chosen =
        whole_alike count z.m (one_after_another sent z.m) row (offered (replicate 48 true)) (λ j. true) c sent_row
        (λ k h. get_or-replicate 48 k true false (omega arith)) chose

    -- and the elimination on the columns of those taken
    pub reduced : (a b : List (List ℕ)) {t : Matrix} {rank : ℕ} → z.m ≤ 16
        → ((j i : ℕ) → j < c.count → i < z.m → cells a j i ≡ one_after_another sent z.m (at c.numbers j) i)
        → ((i j : ℕ) → i < 16 → j < 16 → cells b i j ≡ cells a j i)
        → Reduces z.m c.count (cells b) t rank → Reduces z.m c.count (turned (listed_rows row c)) t rank
    reduced a b {t} {rank} width taken turn =
        reduces_same z.m c.count (cells b) (turned (listed_rows row c))
        (λ i j h l.
        turn i j (omega arith) (omega (arith, chosen.choice.fits)) ∙ taken j i l h
        ∙ sent_row (at c.numbers j) i (omega (arith, chosen.choice.below j l, chosen.there)) h)
        t rank

    -- ---- the answers

    module _ (rows lent : List ℕ) (t : Matrix) (rank : ℕ) (R : Reduces z.m c.count (turned (listed_rows row c)) t rank) (read : z ≡ sizes_of s)
        (before : Passed (plan_before s helpers q gammas rows lent)) where
      pub refuses : ((i e : ℕ) → t i e < 256) → Reaching z.places c.count z.m t (wanted_row z rows) false
          → PlanAllows s helpers q gammas rows lent (Err NoPlan) lent
      refuses bytes beyond =
          subst (λ (x : Sizes). PlanAnswer (plan_before s helpers q gammas rows lent) x count (repair_row x s helpers q gammas) (wanted_row x rows) lent (Err NoPlan) lent)
          read (refl, inr (before, refl, unreachable z count row (wanted_row z rows) c chosen t rank R (repair_low z s helpers q gammas) (λ i e h l. bytes i e) beyond))

      pub plans : {thetas : List ℕ} → Plannable z s helpers q gammas rows lent → ((i : ℕ) → at rows i < 256)
          → Reaching z.places c.count z.m t (wanted_row z rows) true
          → thetas ≡ grid count z.places 0 (λ j k. product z.m (wanted_row z rows k) (row_for c.count (at c.numbers) t j)) lent
          → PlanAllows s helpers q gammas rows lent done thetas
      plans {thetas} ok low within written =
          let P = planned z count row (wanted_row z rows) c chosen t rank R (repair_low z s helpers q gammas) lent ok.sizes.places_low ok.thetas_length (λ k i h l. low _) within written in
          subst (λ (x : Sizes). PlanAnswer (plan_before s helpers q gammas rows lent) x count (repair_row x s helpers q gammas) (wanted_row x rows) lent done thetas)
          read (before, planned_reaches z count row (wanted_row z rows) thetas P, P)
