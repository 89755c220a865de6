-- What a whole choice tells, by the elimination of the rows taken: which candidates are combinations, and which vectors are orthogonal to all.
-- Assumes nothing.
use Prim.Native.Nat.{ℕ, zero, suc, ◌+◌, ◌<◌, ◌≤◌}
use mathlib.Core.Path.{◌≡◌, refl, sym, ap, subst, ◌∙◌}
use mathlib.Core.Logic.{⊎_elim}
use mathlib.Core.Bool.{Bool, true, false, true≢false}
use native.Mathlib.Omega.{arith}
use Rattle.lists.specs.Lists.{at, bit, how_many}
use Rattle.lists.proofs.TabLaws.{order}
use Rattle.lists.proofs.CountLaws.{how_many_same, how_many_less, how_many_stop}
use Rattle.vector.specs.Vectors.{product}
use Rattle.vector.specs.Taken.{Spanned, Combined, Takes}
use Rattle.vector.proofs.TakenLaws.{Agree, Alike, takes_alike, candidate_zero}
use Rattle.linear.specs.PrivateElimination.{Matrix, BytesTo, Reduces}
use Rattle.linear.proofs.AlikeLaws.{independent_same, spans}
use Rattle.choice.specs.declared.Chosen.{Chosen}
use Rattle.choice.specs.PrivateChoice.{listed_rows, Choice, WholeChoice}
use Rattle.choice.proofs.GatherLaws.{spanned_listed}

-- the index that is the t-th to pass
passing : (k t : ℕ) (p : ℕ → Bool) → t < how_many k p → (j : ℕ) × (j < k) × (p j ≡ true) × (how_many j p ≡ t)
unfolding how_many
passing zero t p h = absurd (omega arith)
passing (suc k) t p h =
    ⊎_elim
    (λ (l : t < how_many k p). let w = passing k t p l in (w.0, omega (arith, w.1), w.2, w.3))
    (λ (l : how_many k p ≤ t). go (p k) refl h l)
    (order t (how_many k p))
  where
    go : (b : Bool) → p k ≡ b → t < how_many k p + bit b → how_many k p ≤ t → (j : ℕ) × (j < suc k) × (p j ≡ true) × (how_many j p ≡ t)
    go true e a l = (k, omega arith, e, omega arith)
    go false e a l = absurd (omega arith)

-- ---- rows and candidates that agree

pub whole_alike : (count m : ℕ) (row row' : Matrix) (candidate candidate' : ℕ → Bool) (c : Chosen) → Alike count m row row' → Agree candidate candidate' count
    → WholeChoice count m row candidate c → WholeChoice count m row' candidate' c
whole_alike count m row row' candidate candidate' c rows agree w = record { end = w.end; there = w.there; choice = same; ended = w.ended }
  where
    same : Choice m row' candidate' w.end c
    same =
        let there = w.there in
        let old = w.choice in
        record {
          taken = old.taken;
          takes =
              takes_alike w.end m row row' candidate candidate' old.taken (λ k i h l. rows k i (omega arith) l) (λ k h. agree k (omega arith)) old.takes;
          later = old.later;
          number = old.number;
          listed = old.listed;
          below = old.below;
          fits = old.fits;
          independent =
              independent_same c.count m (listed_rows row c) (listed_rows row' c) (λ t i h l. rows _ i (omega (arith, old.below t h)) l) old.independent;
          consulted = old.consulted ∙ how_many_same w.end candidate candidate' (λ k h. agree k (omega arith));
        }

-- ---- the rows taken

module _ (count m : ℕ) (row : Matrix) (candidate : ℕ → Bool) (c : Chosen) (chosen : WholeChoice count m row candidate c) where
  abbrev choice : Choice m row candidate chosen.end c
  choice = chosen.choice

  abbrev pub taken : ℕ → Bool
  taken = choice.taken

  pub taken_low : (j : ℕ) → taken j ≡ true → j < chosen.end
  taken_low j e =
      ⊎_elim (λ (l : j < chosen.end). l) (λ (l : chosen.end ≤ j). absurd (true≢false (sym e ∙ choice.later j l))) (order j chosen.end)

  -- a taken row is listed, and a listed row is taken
  pub taken_listed : (j : ℕ) → taken j ≡ true → at c.numbers (how_many j taken) ≡ j
  taken_listed j e = choice.listed j (taken_low j e) e

  pub listed_low : (j : ℕ) → taken j ≡ true → how_many j taken < c.count
  listed_low j e = omega (arith, how_many_less j chosen.end taken (taken_low j e) e, choice.number)

  pub listed_taken : (t : ℕ) → t < c.count → (taken (at c.numbers t) ≡ true) × (how_many (at c.numbers t) taken ≡ t)
  listed_taken t h =
      let w = passing chosen.end t taken (omega (arith, choice.number)) in
      let is : w.0 ≡ at c.numbers t = sym (ap (at c.numbers) (sym w.3) ∙ choice.listed w.0 w.1 w.2) in
      subst (λ (j : ℕ). (taken j ≡ true) × (how_many j taken ≡ t)) is (w.2, w.3)

  -- all rows taken are listed
  pub counted_all : how_many count taken ≡ c.count
  counted_all = how_many_stop chosen.end count taken chosen.there choice.later ∙ sym choice.number

  -- what is orthogonal to the rows taken, and to those listed
  listed_zero : (v : ℕ → ℕ) → ((j : ℕ) → taken j ≡ true → product m (row j) v ≡ 0) → (t : ℕ) → t < c.count → product m (listed_rows row c t) v ≡ 0
  listed_zero v zeros t h = zeros (at c.numbers t) (listed_taken t h).0

  taken_zero : (v : ℕ → ℕ) → ((t : ℕ) → t < c.count → product m (listed_rows row c t) v ≡ 0) → (j : ℕ) → taken j ≡ true → product m (row j) v ≡ 0
  taken_zero v zeros j e = ap (λ (k : ℕ). product m (row k) v) (sym (taken_listed j e)) ∙ zeros (how_many j taken) (listed_low j e)

  -- ---- fewer than m rows were taken

  -- then there were no more rows
  all_seen : c.count < m → chosen.end ≡ count
  all_seen h = ⊎_elim (λ (e : chosen.end ≡ count). e) (λ (e : c.count ≡ m). absurd (omega arith)) chosen.ended

  -- and a vector that is orthogonal to those taken is orthogonal to all candidates
  pub candidates_zero : c.count < m → (v : ℕ → ℕ) → ((t : ℕ) → t < c.count → product m (listed_rows row c t) v ≡ 0)
      → (k : ℕ) → k < count → candidate k ≡ true → product m (row k) v ≡ 0
  candidates_zero h v zeros k l =
      candidate_zero m row candidate chosen.end taken choice.takes v (λ j b. taken_zero v zeros j) k (omega (arith, l, all_seen h))

  module _ (t : Matrix) (rank : ℕ) (reduced : Reduces c.count m (listed_rows row c) t rank) where
    -- as many as the rank says
    pub count_ranked : rank ≡ c.count
    count_ranked = reduced.independent.1 choice.independent

    -- ---- rank m

    module _ (full : rank ≡ m) where
      pub count_full : c.count ≡ m
      count_full = omega (arith, full, reduced.at_most_rows, choice.fits)

      -- only the zero vector is orthogonal to the rows taken
      pub determined : (v : ℕ → ℕ) → BytesTo m v → ((j : ℕ) → taken j ≡ true → product m (row j) v ≡ 0) → (i : ℕ) → i < m → v i ≡ 0
      determined v bytes zeros = reduced.determining.0 full v bytes (listed_zero v zeros)

      -- a row past those seen is a combination of those taken
      past_combined : ((k i : ℕ) → row k i < 256) → (k : ℕ) → chosen.end ≤ k → Combined m row taken k
      past_combined low k h =
          let number : c.count ≡ how_many k taken = choice.number ∙ sym (how_many_stop chosen.end k taken h choice.later) in
          spanned_listed taken (at c.numbers) row m k (λ j l. taken_listed j)
          (subst (λ (n : ℕ). Spanned n m (listed_rows row c) (row k)) number
          (spans c.count m (listed_rows row c) t rank reduced full (λ i j b l. low _ j) (row k) (λ i l. low k i)))

      pub takes_all : ((k i : ℕ) → row k i < 256) → Takes m row candidate count taken
      takes_all low =
          record {
            candidates = λ k h e. choice.takes.candidates k (taken_low k e) e;
            independent = λ k h e. choice.takes.independent k (taken_low k e) e;
            every = λ k h f e.
                ⊎_elim (λ (l : k < chosen.end). choice.takes.every k l f e) (λ (l : chosen.end ≤ k). past_combined low k l) (order k chosen.end);
          }
