-- Two rising rows of numbers with the same entries are the same. Assumes nothing.
use Prim.Native.Nat.{ℕ, zero, suc, ◌<◌, ◌≤◌}
use mathlib.Core.Path.{◌≡◌, sym, ap, subst, ◌∙◌}
use mathlib.Core.Logic.{⊎_elim}
use native.Mathlib.Decide.{ℕ_discrete}
use native.Mathlib.Omega.{arith}
use Rattle.lists.proofs.TabLaws.{order}

-- the first c entries of a rise by R
abbrev Rising : (R : ℕ → ℕ → Type 0) (c : ℕ) (a : ℕ → ℕ) → Type 0
Rising R c a = (i j : ℕ) → i < j → j < c → R (a i) (a j)

-- each of the first c entries of a is one of the first d of b
abbrev Within : (c d : ℕ) (a b : ℕ → ℕ) → Type 0
Within c d a b = (i : ℕ) → i < c → (j : ℕ) × (j < d) × (b j ≡ a i)

-- both agree below i
abbrev Alike : (i : ℕ) (a b : ℕ → ℕ) → Type 0
Alike i a b = (j : ℕ) → j < i → a j ≡ b j

module _ (R : ℕ → ℕ → Type 0) (never : (x y : ℕ) → R x y → R y x → ⊥) where
  -- where they agree below i, entry i of a stands in b at i or later
  later : (c d : ℕ) (a b : ℕ → ℕ) → Rising R c a → Within c d a b → (i : ℕ) → i < c → Alike i a b → (j : ℕ) × (i ≤ j) × (j < d) × (b j ≡ a i)
  later c d a b rises within i h alike =
      let w = within i h in
      ⊎_elim
      (λ (l : w.0 < i).
      let r : R (a i) (a i) = subst (λ (x : ℕ). R x (a i)) (alike w.0 l ∙ w.2) (rises w.0 i l h) in
      absurd (never (a i) (a i) r r))
      (λ (l : i ≤ w.0). (w.0, l, w.1, w.2))
      (order w.0 i)

  module _ (c d : ℕ) (a b : ℕ → ℕ) (up : Rising R c a) (up' : Rising R d b) (there : Within c d a b) (back : Within d c b a) where
    -- both entries i cannot stand later
    alike_next : (i : ℕ) → i < c → Alike i a b → a i ≡ b i
    alike_next i h alike =
        let w = later c d a b up there i h alike in
        let w' = later d c b a up' back i (omega arith) (λ j l. sym (alike j l)) in
        elim (ℕ_discrete i w.0) [
          | yes e ↦ sym w.3 ∙ ap b (sym e)
          | no n ↦ elim (ℕ_discrete i w'.0) [
            | yes e ↦ ap a e ∙ w'.3
            | no n' ↦ absurd (never (a i) (b i)
                (subst (R (a i)) w'.3 (up i w'.0 (omega arith) w'.2))
                (subst (R (b i)) w.3 (up' i w.0 (omega arith) w.2)))
          ]
        ]

    alike_below : (n : ℕ) → n ≤ c → Alike n a b
    alike_below zero h j l = absurd (omega arith)
    alike_below (suc n) h j l =
        elim (ℕ_discrete j n) [ yes e ↦ rw e (alike_next n h (alike_below n (omega arith))) | no e ↦ alike_below n (omega arith) j (omega arith) ]

    no_more : c ≤ d
    no_more =
        ⊎_elim (λ (l : d < c). let w = later c d a b up there d l (alike_below d (omega arith)) in absurd (omega arith)) (λ l. l) (order d c)

  pub same_rising : (c d : ℕ) (a b : ℕ → ℕ) → Rising R c a → Rising R d b → Within c d a b → Within d c b a → (c ≡ d) × Alike c a b
  same_rising c d a b up up' there back = (
    omega (arith, no_more c d a b up up' there back, no_more d c b a up' up back there),
    alike_below c d a b up up' there back c (omega arith),
  )
