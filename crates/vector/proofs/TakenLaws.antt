-- Which rows are taken is fixed; what is orthogonal to them is orthogonal to every candidate, and they span what all candidates span. Assumes
-- nothing.
use Prim.Native.Nat.{ℕ, zero, suc, ◌<◌, ◌≤◌}
use mathlib.Core.Path.{◌≡◌, refl, sym, ap, ◌∙◌}
use mathlib.Core.Logic.{⊎_elim}
use mathlib.Core.Bool.{Bool, true, false}
use native.Mathlib.Nat.{eq-or-lt_of_le, le_of_suc-le-suc}
use native.Mathlib.Omega.{arith}
use Rattle.lists.specs.Lists.{pick}
use Rattle.vector.specs.Vectors.{product}
use Rattle.vector.specs.Taken.{Spanned, only, Combined, Takes}
use Rattle.vector.proofs.VectorLaws.{product_zero}
use Rattle.vector.proofs.SpanLaws.{spanned_rows, spanned_same, spanned_row, spanned_through, spanned_orthogonal}

pub only_byte : (row : ℕ → ℕ → ℕ) → ((j i : ℕ) → row j i < 256) → (taken : ℕ → Bool) (j i : ℕ) → only taken row j i < 256
only_byte row low taken j i = go (taken j)
  where
    go : (t : Bool) → pick t (row j i) 0 < 256
    go true = low j i
    go false = omega arith

-- ---- the same where rows, candidates or rows taken agree

abbrev pub Agree : (ℕ → Bool) → (ℕ → Bool) → ℕ → Type 0
Agree taken taken' k = (j : ℕ) → j < k → taken j ≡ taken' j

-- a combination uses only the rows before
pub combined_same : (m : ℕ) (row : ℕ → ℕ → ℕ) (taken taken' : ℕ → Bool) (k : ℕ) → Agree taken taken' k → Combined m row taken k → Combined m row taken' k
combined_same m row taken taken' k agree =
    spanned_rows k m (only taken row) (only taken' row) (λ j i l b. ap (λ (t : Bool). pick t (row j i) 0) (agree j l))

-- the first m elements of the rows below count agree
abbrev pub Alike : (count m : ℕ) (row row' : ℕ → ℕ → ℕ) → Type 0
Alike count m row row' = (k i : ℕ) → k < count → i < m → row k i ≡ row' k i

combined_alike : (count m : ℕ) (row row' : ℕ → ℕ → ℕ) (taken : ℕ → Bool) (k : ℕ) → Alike count m row row' → k < count → Combined m row taken k → Combined m row' taken k
combined_alike count m row row' taken k same h c =
    spanned_same k m (only taken row') (λ i l. sym (same k i h l))
    (spanned_rows k m (only taken row) (only taken row') (λ j i b l. ap (λ (x : ℕ). pick (taken j) x 0) (same j i (omega arith) l)) c)

pub takes_alike : (count m : ℕ) (row row' : ℕ → ℕ → ℕ) (candidate candidate' taken : ℕ → Bool) → Alike count m row row' → Agree candidate candidate' count
    → Takes m row candidate count taken → Takes m row' candidate' count taken
takes_alike count m row row' candidate candidate' taken same agree t =
    record {
      candidates = λ k h e. sym (agree k h) ∙ t.candidates k h e;
      independent = λ k h e c. t.independent k h e (combined_alike count m row' row taken k (λ j i b l. sym (same j i b l)) h c);
      every = λ k h f e. combined_alike count m row row' taken k same h (t.every k h (agree k h ∙ f) e);
    }

-- ---- the rows taken are fixed

module _ (m : ℕ) (row : ℕ → ℕ → ℕ) (candidate : ℕ → Bool) (count : ℕ) where
  -- where two agree before k, one does not take k alone
  not_alone : (taken taken' : ℕ → Bool) → Takes m row candidate count taken → Takes m row candidate count taken'
      → (k : ℕ) → k < count → Agree taken taken' k → taken k ≡ true → taken' k ≡ false → ⊥
  not_alone taken taken' t t' k h agree p q =
      t.independent k h p (combined_same m row taken' taken k (λ j l. sym (agree j l)) (t'.every k h (t.candidates k h p) q))

  module _ (taken taken' : ℕ → Bool) (t : Takes m row candidate count taken) (t' : Takes m row candidate count taken') where
    agree_at : (k : ℕ) → k < count → Agree taken taken' k → taken k ≡ taken' k
    agree_at k h agree = go (taken k) (taken' k) refl refl
      where
        go : (x y : Bool) → taken k ≡ x → taken' k ≡ y → x ≡ y
        go true true p q = refl
        go true false p q = absurd (not_alone taken taken' t t' k h agree p q)
        go false true p q = absurd (not_alone taken' taken t' t k h (λ j l. sym (agree j l)) q p)
        go false false p q = refl

    agree_below : (k : ℕ) → k ≤ count → Agree taken taken' k
    agree_below zero h j l = absurd (omega arith)
    agree_below (suc k) h j l =
        ⊎_elim
        (λ (e : j ≡ k). rw e (agree_at k h (agree_below k (omega arith))))
        (λ (b : j < k). agree_below k (omega arith) j b)
        (eq-or-lt_of_le (le_of_suc-le-suc l))

    pub taken_same : (k : ℕ) → k < count → taken k ≡ taken' k
    taken_same = agree_below count (omega arith)

-- ---- a vector orthogonal to the rows taken

module _ (m : ℕ) (row : ℕ → ℕ → ℕ) (candidate : ℕ → Bool) (count : ℕ) (taken : ℕ → Bool) (takes : Takes m row candidate count taken) (v : ℕ → ℕ)
    (zeros : (k : ℕ) → k < count → taken k ≡ true → product m (row k) v ≡ 0) where
  part_zero : (k : ℕ) → k < count → product m (only taken row k) v ≡ 0
  part_zero k h = go (taken k) refl
    where
      go : (x : Bool) → taken k ≡ x → product m (λ i. pick x (row k i) 0) v ≡ 0
      go true q = zeros k h q
      go false q = product_zero m v

  pub candidate_zero : (k : ℕ) → k < count → candidate k ≡ true → product m (row k) v ≡ 0
  candidate_zero k h f = go (taken k) refl
    where
      go : (x : Bool) → taken k ≡ x → product m (row k) v ≡ 0
      go true q = zeros k h q
      go false q = spanned_orthogonal k m (only taken row) v (λ j l. part_zero j (omega arith)) (takes.every k h f q)

-- ---- a combination of all rows before one

-- is one of those taken, where every row was a candidate
pub spanned_taken : (m : ℕ) (row : ℕ → ℕ → ℕ) (candidate : ℕ → Bool) (count : ℕ) (taken : ℕ → Bool) → Takes m row candidate count taken
    → ((j : ℕ) → j < count → candidate j ≡ true) → ((j i : ℕ) → row j i < 256) → (k : ℕ) → k ≤ count → {v : ℕ → ℕ} → Spanned k m row v → Spanned k m (only taken row) v
spanned_taken m row candidate count taken takes all low k h = spanned_through k m (only taken row) k row (λ j l. each j l (taken j) refl)
  where
    itself : (j : ℕ) → j < k → Spanned k m (only taken row) (only taken row j)
    itself j l = spanned_row k m (only taken row) j l (λ i b. only_byte row low taken j i)

    each : (j : ℕ) → j < k → (t : Bool) → taken j ≡ t → Spanned k m (only taken row) (row j)
    each j l true e = spanned_same k m (only taken row) (λ i b. sym (ap (λ (t : Bool). pick t (row j i) 0) e)) (itself j l)
    each j l false e =
        spanned_through k m (only taken row) j (only taken row) (λ p b. itself p (omega arith)) (takes.every j (omega arith) (all j (omega arith)) e)
