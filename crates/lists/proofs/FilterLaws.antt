-- Laws of `filtered`: its length, what stands in it, how often and in which order. Assumes nothing.
use Prim.Native.Nat.{ℕ, zero, suc, ◌+◌, ◌<◌}
use mathlib.Core.Path.{◌≡◌, refl, ap, ap₂, ◌∙◌}
use mathlib.Core.Bool.{Bool, true, false}
use mathlib.Core.List.{List, [], ◌∷◌, ◌++◌, append-nil}
use mathlib.Core.Logic.{⊎_elim, ◌≢◌}
use native.Mathlib.Decide.{ℕ_discrete}
use native.Mathlib.Numerals.{add-one}
use native.Mathlib.Omega.{arith}
use lib.Dec.{eqb}
use lib.ListN.{length, length-append, get_or-append}
use lib.Seq.{get_or_at}
use borrow.Author.Tests.{eq-eqb, ne_eqb}
use Rattle.lists.specs.Lists.{pick, at, bit, how_many, filtered}
use Rattle.lists.proofs.TabLaws.{order}
use Rattle.lists.proofs.AnyLaws.{pick_same, pick_test}
use Rattle.lists.proofs.CountLaws.{how_many_more, how_many_same, how_many_one, how_many_less}

-- the steps of a loop: no index yet, one that passes, one that does not
pub filtered_none : (p : ℕ → Bool) (f : ℕ → ℕ) → filtered 0 p f ≡ []
unfolding filtered
filtered_none p f = refl

pub filtered_take : (n : ℕ) (p : ℕ → Bool) (f : ℕ → ℕ) → p n ≡ true → filtered (n + 1) p f ≡ filtered n p f ++ (f n ∷ [])
unfolding filtered
filtered_take n p f e = rw (add-one, e)

pub filtered_skip : (n : ℕ) (p : ℕ → Bool) (f : ℕ → ℕ) → p n ≡ false → filtered (n + 1) p f ≡ filtered n p f
unfolding filtered
filtered_skip n p f e = rw (add-one, e) (append-nil (filtered n p f))

length_one : (b : Bool) (x : ℕ) → length (pick b (x ∷ []) []) ≡ bit b
length_one true x = refl
length_one false x = refl

pub length_filtered : (n : ℕ) (p : ℕ → Bool) (f : ℕ → ℕ) → length (filtered n p f) ≡ how_many n p
unfolding filtered how_many
length_filtered zero p f = refl
length_filtered (suc n) p f = length-append (filtered n p f) _ ∙ ap₂ ◌+◌ (length_filtered n p f) (length_one (p n) (f n))

-- ---- one index more

module _ (n : ℕ) (p : ℕ → Bool) (f : ℕ → ℕ) where
  abbrev before : List ℕ
  before = filtered n p f

  abbrev after : Bool → List ℕ
  after b = before ++ pick b (f n ∷ []) []

  stays : (b : Bool) (j : ℕ) → j < how_many n p → at (after b) j ≡ at before j
  stays b j h = get_or-append before (pick b (f n ∷ []) []) 0 j (omega (arith, length_filtered n p f))

  comes : at (after true) (how_many n p) ≡ f n
  comes = get_or_at before (f n) [] 0 (how_many n p) (length_filtered n p f)

  all_more : (P : ℕ → Type 0) (b : Bool) → ((j : ℕ) → j < how_many n p → P (at before j)) → (b ≡ true → P (f n))
      → (j : ℕ) → j < how_many n p + bit b → P (at (after b) j)
  all_more P true old new j h =
      ⊎_elim (λ l. rw (stays true j l) (old j l))
      (λ l. let e : j ≡ how_many n p = omega arith in rw (e, comes) (new refl))
      (order j (how_many n p))
  all_more P false old new j h = rw (stays false j (omega arith)) (old j (omega arith))

  often_before : (b : Bool) (v : ℕ) → how_many (how_many n p) (λ j. eqb (at (after b) j) v) ≡ how_many (how_many n p) (λ j. eqb (at before j) v)
  often_before b v = how_many_same (how_many n p) _ _ (λ j h. ap (λ (x : ℕ). eqb x v) (stays b j h))

  often_more : (b : Bool) (v : ℕ)
      → how_many (how_many n p + bit b) (λ j. eqb (at (after b) j) v)
      ≡ how_many (how_many n p) (λ j. eqb (at before j) v) + bit (pick b (eqb (f n) v) false)
  often_more true v =
      how_many_more (how_many n p) (λ j. eqb (at (after true) j) v) ∙ ap₂ ◌+◌ (often_before true v) (ap (λ (x : ℕ). bit (eqb x v)) comes)
  often_more false v =
      let e : how_many n p + 0 ≡ how_many n p = omega arith in
      ap (λ (c : ℕ). how_many c (λ j. eqb (at (after false) j) v)) e ∙ often_before false v ∙ omega arith

  rising_more : (R : ℕ → ℕ → Type 0) (b : Bool) → ((i j : ℕ) → i < j → j < how_many n p → R (at before i) (at before j))
      → (b ≡ true → (j : ℕ) → j < how_many n p → R (at before j) (f n))
      → (i j : ℕ) → i < j → j < how_many n p + bit b → R (at (after b) i) (at (after b) j)
  rising_more R true old below i j h l =
      ⊎_elim (λ q. rw (stays true i (omega arith), stays true j q) (old i j h q))
      (λ q. let e : j ≡ how_many n p = omega arith in rw (e, comes, stays true i (omega arith)) (below refl i (omega arith)))
      (order j (how_many n p))
  rising_more R false old below i j h l = rw (stays false i (omega arith), stays false j (omega arith)) (old i j h (omega arith))

-- ---- all indices

-- tests that agree choose the same
pub filtered_same : (n : ℕ) (p q : ℕ → Bool) (f : ℕ → ℕ) → ((k : ℕ) → k < n → p k ≡ q k) → filtered n p f ≡ filtered n q f
unfolding filtered
filtered_same zero p q f e = refl
filtered_same (suc n) p q f e = rw (filtered_same n p q f (λ k h. e k (omega arith)), e n (omega arith))

-- what is so of f at each index that passes is so of each entry
pub filtered_all : (P : ℕ → Type 0) (n : ℕ) (p : ℕ → Bool) (f : ℕ → ℕ) → ((k : ℕ) → k < n → p k ≡ true → P (f k))
    → (j : ℕ) → j < how_many n p → P (at (filtered n p f) j)
unfolding filtered how_many
filtered_all P zero p f each j h = absurd (omega arith)
filtered_all P (suc n) p f each j h = all_more n p f P (p n) (filtered_all P n p f (λ k l. each k (omega arith))) (each n (omega arith)) j h

-- a value stands there as often as f has it at indices that pass
often : (n : ℕ) (p : ℕ → Bool) (f : ℕ → ℕ) (v : ℕ)
    → how_many (how_many n p) (λ j. eqb (at (filtered n p f) j) v) ≡ how_many n (λ k. pick (p k) (eqb (f k) v) false)
unfolding filtered how_many
often zero p f v = refl
often (suc n) p f v = often_more n p f (p n) v ∙ ap (λ (c : ℕ). c + bit (pick (p n) (eqb (f n) v) false)) (often n p f v)

-- once, if the index of a value that no other has passes, and else never
pub filtered_once : (n : ℕ) (p : ℕ → Bool) (f : ℕ → ℕ) (k : ℕ) → k < n → ((i : ℕ) → i < n → i ≢ k → f i ≢ f k)
    → how_many (how_many n p) (λ j. eqb (at (filtered n p f) j) (f k)) ≡ bit (p k)
filtered_once n p f k h apart =
    often n p f (f k)
    ∙ how_many_one n k _ h (λ i l q. ap (λ (b : Bool). pick (p i) b false) (ne_eqb (f i) (f k) (apart i l q)) ∙ pick_same (p i) false)
    ∙ ap bit (ap (λ (b : Bool). pick (p k) b false) (eq-eqb (f k) (f k) refl) ∙ pick_test (p k))

-- the entry of an index that passes
pub filtered_at : (n : ℕ) (p : ℕ → Bool) (f : ℕ → ℕ) (k : ℕ) → k < n → p k ≡ true → at (filtered n p f) (how_many k p) ≡ f k
unfolding filtered
filtered_at zero p f k h e = absurd (omega arith)
filtered_at (suc n) p f k h e =
    elim (ℕ_discrete k n) [
      | yes q ↦ rw (q, rw q at e) (comes n p f)
      | no q ↦ stays n p f (p n) (how_many k p) (how_many_less k n p (omega arith) e) ∙ filtered_at n p f k (omega arith) e
    ]

-- where f rises at the indices that pass, so do the entries, by any order
pub filtered_rising : (R : ℕ → ℕ → Type 0) (n : ℕ) (p : ℕ → Bool) (f : ℕ → ℕ)
    → ((k l : ℕ) → k < l → l < n → p k ≡ true → p l ≡ true → R (f k) (f l))
    → (i j : ℕ) → i < j → j < how_many n p → R (at (filtered n p f) i) (at (filtered n p f) j)
unfolding filtered how_many
filtered_rising R zero p f rises i j h l = absurd (omega arith)
filtered_rising R (suc n) p f rises i j h l =
    rising_more n p f R (p n) (filtered_rising R n p f (λ k l h low. rises k l h (omega arith)))
    (λ last. filtered_all (λ x. R x (f n)) n p f (λ k low passed. rises k n low (omega arith) passed last))
    i j h l
