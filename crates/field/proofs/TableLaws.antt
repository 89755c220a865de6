-- The rule of the tables, from one test that antt computes over the two constants whole. Assumes nothing.
use mathlib.Core.Path.{◌≡◌, refl, sym, ap, ◌∙◌}
use mathlib.Core.Bool.{Bool, false}
use mathlib.Core.List.{List}
use mathlib.Core.Logic.{⊎_elim}
use Prim.Native.Nat.{ℕ, zero, suc, ◌+◌, ◌-◌, ◌<◌, ◌≤◌}
use native.Mathlib.Nat.{not-suc-le-zero}
use native.Mathlib.Omega.{arith}
use lib.Dec.{T, eqb, eqb→eq, ltb, ltb→lt}
use Rattle.lists.specs.Lists.{pick, at}
use Rattle.lists.proofs.AllLaws.{all, all_at, both}
use Rattle.lists.proofs.TabLaws.{order}
use Rattle.field.specs.Field.{sum, modulus, xtime, xtimes, times, power}
use Rattle.field.specs.PrivateTables.{logs_start, Laid, FieldTables}
use Rattle.field.proofs.TimesLaws.{one_times}
use Rattle.field.proofs.PowerLaws.{power_lt, power_add}

-- each power is 03 times the one before; a logarithm is an exponent; it names the place of its element among the powers
abbrev step : List ℕ → ℕ → Bool
step p k = eqb (at p (suc k)) (times 3 (at p k))

abbrev low : List ℕ → ℕ → Bool
low l a = ltb (at l a) 255

abbrev place : List ℕ → List ℕ → ℕ → Bool
place p l k = eqb (at p (at l (suc k))) (suc k)

abbrev LogBelow : List ℕ → Type 0
LogBelow l = (a : ℕ) → a < 256 → at l a < 255

-- the one test: the powers start with 01, and so on
unfoldable pub pass : List ℕ → List ℕ → Bool
pass p l = pick (eqb (at p 0) 1) (pick (all 254 (step p)) (pick (all 256 (low l)) (all 255 (place p l)) false) false) false

-- 03 to the 255 is 01 again
pub power_turn : power 3 255 ≡ 1
unfolding power times xtimes xtime modulus sum
power_turn = refl

power_back : (k : ℕ) → 255 ≤ k → power 3 (k - 255) ≡ power 3 k
power_back k h =
    let e : k ≡ 255 + (k - 255) = omega arith in
    sym (ap (power 3) e ∙ rw (power_add 3 255 (k - 255), power_turn) (one_times (power_lt 3 (k - 255))))

module _ (p l : List ℕ) where
  parts : T (pass p l) → T (eqb (at p 0) 1) × T (all 254 (step p)) × T (all 256 (low l)) × T (all 255 (place p l))
  unfolding pass
  parts t =
      let u = both (eqb (at p 0) 1) _ t in
      let v = both (all 254 (step p)) _ u.1 in
      let w = both (all 256 (low l)) _ v.1 in
      (u.0, v.0, w.0, w.1)

  powers_are : T (eqb (at p 0) 1) → T (all 254 (step p)) → (k : ℕ) → k < 255 → at p k ≡ power 3 k
  unfolding power
  powers_are f s zero h = eqb→eq (at p 0) 1 f
  powers_are f s (suc k) h = eqb→eq _ _ (all_at 254 (step p) s k (omega arith)) ∙ ap (times 3) (powers_are f s k (omega arith))

  twice_are : {t : List ℕ} → Laid p l t → ((k : ℕ) → k < 255 → at p k ≡ power 3 k) → (k : ℕ) → k < logs_start → at t k ≡ power 3 k
  twice_are d e k h =
      ⊎_elim
      (λ (b : k < 255). d.first k b ∙ e k b)
      (λ (b : 255 ≤ k).
      let q : k - 255 + 255 ≡ k = omega arith in
      rw q at (d.again (k - 255) (omega arith)) ∙ e (k - 255) (omega arith) ∙ power_back k b)
      (order k 255)

  logs_are : ((k : ℕ) → k < 255 → at p k ≡ power 3 k) → LogBelow l → T (all 255 (place p l)) → (a : ℕ) → 0 < a → a < 256 → power 3 (at l a) ≡ a
  logs_are e b o zero h g = absurd (not-suc-le-zero h)
  logs_are e b o (suc k) h g =
      sym (e (at l (suc k)) (b (suc k) g)) ∙ eqb→eq _ _ (all_at 255 (place p l) o k (omega arith))

  pub tables_pass : {t : List ℕ} → Laid p l t → T (pass p l) → FieldTables t
  tables_pass d t =
      let u = parts t in
      let powers : (k : ℕ) → k < 255 → at p k ≡ power 3 k = powers_are u.0 u.1 in
      let below : LogBelow l = λ a h. ltb→lt _ _ (all_at 256 (low l) u.2 a h) in
      record {
        power_of = twice_are d powers;
        exponent = λ a h. rw (d.logs a h) (below a h);
        logarithm = λ a f h. ap (power 3) (d.logs a h) ∙ logs_are powers below u.3 a f h;
      }
