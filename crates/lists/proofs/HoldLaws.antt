-- Which values a list holds, and which indices `filtered` keeps. Assumes nothing.
use Prim.Native.Nat.{ℕ, zero, suc, ◌<◌, ◌≤◌}
use mathlib.Core.Path.{◌≡◌, refl, sym, ap, ◌∙◌}
use mathlib.Core.Bool.{Bool, true, false}
use mathlib.Core.List.{List, [], ◌∷◌, ◌++◌}
use mathlib.Core.Logic.{◌≢◌}
use native.Mathlib.Decide.{ℕ_discrete}
use native.Mathlib.Omega.{arith}
use lib.Dec.{eqb}
use borrow.Author.Tests.{eq-eqb, ne_eqb}
use Rattle.lists.specs.Lists.{pick, filtered, holds}
use Rattle.lists.proofs.AnyLaws.{pick_same, pick_test}

holds_append : (xs ys : List ℕ) (v : ℕ) → holds (xs ++ ys) v ≡ pick (holds xs v) true (holds ys v)
holds_append [] ys v = refl
holds_append (x ∷ xs) ys v = rw (holds_append xs ys v) (go (eqb v x))
  where
    go : (t : Bool) → pick t true (pick (holds xs v) true (holds ys v)) ≡ pick (pick t true (holds xs v)) true (holds ys v)
    go true = refl
    go false = refl

holds_one : (b : Bool) (x v : ℕ) → holds (pick b (x ∷ []) []) v ≡ pick b (eqb v x) false
holds_one true x v = pick_test (eqb v x)
holds_one false x v = refl

-- the indices themselves, where they pass
module _ (p : ℕ → Bool) (v : ℕ) where
  abbrev passes : (n : ℕ) → Bool
  passes n = holds (filtered n p (λ k. k)) v

  holds_more : (n : ℕ) → passes (suc n) ≡ pick (passes n) true (pick (p n) (eqb v n) false)
  unfolding filtered
  holds_more n = rw (holds_append (filtered n p (λ k. k)) (pick (p n) (n ∷ []) []) v, holds_one (p n) n v)

  holds_other : (n : ℕ) → v ≢ n → passes (suc n) ≡ passes n
  holds_other n q = holds_more n ∙ rw (ne_eqb v n q, pick_same (p n) false) (pick_test (passes n))

  holds_none : (n : ℕ) → n ≤ v → passes n ≡ false
  unfolding filtered
  holds_none zero h = refl
  holds_none (suc n) h = holds_other n (λ e. omega arith) ∙ holds_none n (omega arith)

  pub filtered_holds : (n : ℕ) → v < n → passes n ≡ p v
  filtered_holds zero h = absurd (omega arith)
  filtered_holds (suc n) h =
      elim (ℕ_discrete v n) [
        | yes e ↦ holds_more n ∙ rw (holds_none n (omega arith), eq-eqb v n e) (pick_test (p n) ∙ ap p (sym e))
        | no q ↦ holds_other n q ∙ filtered_holds n (omega arith)
      ]
