-- Laws of `over`. Assumes nothing.
use Prim.Native.Nat.{ℕ, suc, ◌+◌, ◌-◌, ◌*◌, ◌/◌, ◌%◌, ◌<◌, ◌≤◌}
use mathlib.Core.Path.{◌≡◌, refl, sym, ap, ◌∙◌}
use mathlib.Core.Bool.{Bool, true, false}
use mathlib.Core.Logic.{⊎_elim}
use native.Mathlib.Decide.{ℕ_discrete}
use native.Mathlib.Nat.{mul-le-mul_right, div-add-mod', mod-lt}
use native.Mathlib.Omega.{arith}
use lib.Dec.{eqb, ltb}
use borrow.Author.Tests.{lt-ltb, le-ltb, eq-eqb, ne_eqb}
use Rattle.lists.specs.Lists.{pick, over}
use Rattle.lists.proofs.TabLaws.{order}

module _ {A : Type 0} (from n : ℕ) (f g : ℕ → A) where
  pub over_in : (j : ℕ) → j < n → over from n f g (from + j) ≡ f j
  unfolding over
  over_in j h =
      let e : from + j - from ≡ j = omega arith in
      rw (le-ltb (from + j) from (omega arith), lt-ltb (from + j) (from + n) (omega arith), e)

  -- the same, for an index in the range
  pub over_within : (i : ℕ) → from ≤ i → i < from + n → over from n f g i ≡ f (i - from)
  over_within i a b =
      let e : i ≡ from + (i - from) = omega arith in
      ap (over from n f g) e ∙ over_in (i - from) (omega arith)

  pub over_below : (i : ℕ) → i < from → over from n f g i ≡ g i
  unfolding over
  over_below i h = rw (lt-ltb i from h)

  pub over_above : (i : ℕ) → from + n ≤ i → over from n f g i ≡ g i
  unfolding over
  over_above i h = rw (le-ltb i from (omega arith), le-ltb i (from + n) h)

-- at no index, and at one index more
pub over_none : {A : Type 0} (from : ℕ) (f g : ℕ → A) (i : ℕ) → over from 0 f g i ≡ g i
over_none from f g i =
    ⊎_elim (λ (l : i < from). over_below from 0 f g i l) (λ (m : from ≤ i). over_above from 0 f g i (omega arith)) (order i from)

pub over_more : {A : Type 0} (from n : ℕ) (f g : ℕ → A) (i : ℕ) → over (from + n) 1 (λ j. f n) (over from n f g) i ≡ over from (n + 1) f g i
over_more from n f g i =
    ⊎_elim
    (λ (a : i < from + n).
    over_below (from + n) 1 _ (over from n f g) i a
    ∙ ⊎_elim
    (λ (l : i < from). over_below from n f g i l ∙ sym (over_below from (n + 1) f g i l))
    (λ (m : from ≤ i). over_within from n f g i m a ∙ sym (over_within from (n + 1) f g i m (omega arith)))
    (order i from))
    (λ (a : from + n ≤ i).
    ⊎_elim
    (λ (l : i < from + (n + 1)).
    over_within (from + n) 1 _ (over from n f g) i a (omega arith) ∙ ap f {x = n} {y = i - from} (omega arith)
    ∙ sym (over_within from (n + 1) f g i (omega arith) l))
    (λ (l : from + (n + 1) ≤ i).
    over_above (from + n) 1 _ (over from n f g) i (omega arith) ∙ over_above from n f g i a ∙ sym (over_above from (n + 1) f g i l))
    (order i (from + (n + 1))))
    (order i (from + n))

pub over_map : {A B : Type 0} (h : A → B) (from n : ℕ) (f g : ℕ → A) (i : ℕ)
    → h (over from n f g i) ≡ over from n (λ j. h (f j)) (λ j. h (g j)) i
unfolding over
over_map h from n f g i = go (ltb i from) (ltb i (from + n))
  where
    go : (a b : Bool) → h (pick a (g i) (pick b (f (i - from)) (g i))) ≡ pick a (h (g i)) (pick b (h (f (i - from))) (h (g i)))
    go true b = refl
    go false true = refl
    go false false = refl

-- two that agree on the indices in question
pub over_same : {A : Type 0} (from n : ℕ) (f f' g g' : ℕ → A) (i : ℕ) → ((j : ℕ) → j < n → f j ≡ f' j) → g i ≡ g' i
    → over from n f g i ≡ over from n f' g' i
over_same from n f f' g g' i hf hg =
    ⊎_elim
    (λ (l : i < from). over_below from n f g i l ∙ hg ∙ sym (over_below from n f' g' i l))
    (λ (m : from ≤ i).
    ⊎_elim
    (λ (l : i < from + n). over_within from n f g i m l ∙ hf (i - from) (omega arith) ∙ sym (over_within from n f' g' i m l))
    (λ (l : from + n ≤ i). over_above from n f g i l ∙ hg ∙ sym (over_above from n f' g' i l))
    (order i (from + n)))
    (order i from)

-- g, but f at the n indices of row b
pub over_row : {A : Type 0} (n b : ℕ) (f g : ℕ → A) (i : ℕ) → 0 < n → over (b * n) n (λ j. f (b * n + j)) g i ≡ pick (eqb (i / n) b) (f i) (g i)
over_row n b f g i low =
    let parts : i / n * n + i % n ≡ i = div-add-mod' i n in
    let rest : i % n < n = mod-lt i low in
    ⊎_elim
    (λ (l : i / n < b). over_below (b * n) n _ g i (omega (arith, mul-le-mul_right n l)) ∙ rw (ne_eqb (i / n) b (λ e. omega arith)))
    (λ (m : b ≤ i / n).
    elim (ℕ_discrete (i / n) b) [
      | yes e ↦
          let here : b * n + i % n ≡ i = rw e at parts in
          let back : b * n + (i - b * n) ≡ i = omega arith in
          over_within (b * n) n (λ j. f (b * n + j)) g i (omega arith) (omega arith) ∙ ap f back ∙ rw (eq-eqb (i / n) b e)
      | no q ↦
          let past : suc b ≤ i / n = omega arith in
          over_above (b * n) n _ g i (omega (arith, mul-le-mul_right n past)) ∙ rw (ne_eqb (i / n) b q)
    ])
    (order (i / n) b)
