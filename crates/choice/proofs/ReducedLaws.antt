-- Rows that were reduced: how they clear a row, and what the cleared row tells of it. Assumes nothing.
use Prim.Native.Nat.{ℕ, zero, suc, ◌+◌, ◌-◌, ◌%◌, ◌<◌, ◌≤◌}
use mathlib.Core.Path.{◌≡◌, refl, sym, ap, ap₂, subst, ◌∙◌}
use mathlib.Core.Logic.{◌≢◌, inl, inr, ⊎_elim}
use mathlib.Core.Bool.{not}
use native.Mathlib.Decide.{ℕ_discrete}
use native.Mathlib.Omega.{arith}
use lib.Bits.{xor_self, xor_zero_r, xor_lt}
use Rattle.field.specs.Field.{plus, sum, times, inverse_of}
use Rattle.field.proofs.XorLaws.{xors, xor_cancel}
use Rattle.field.proofs.SumLaws.{sum_last, sum_more, sum_none, sum_split, sum_zero}
use Rattle.field.proofs.TimesLaws.{times_comm, times_assoc, times_zero, zero_times, one_times, one_times_low, times_lt, times_mod_left}
use Rattle.field.proofs.InverseLaws.{times_inverse}
use Rattle.vector.specs.Vectors.{mixed}
use Rattle.vector.specs.Taken.{Spanned}
use Rattle.vector.proofs.SpanLaws.{spanned_same, spanned_zero, spanned_plus, spanned_scale, spanned_row, spanned_through}
use Rattle.linear.specs.PrivateElimination.{Matrix, BytesTo}
use Rattle.linear.proofs.RowOperationLaws.{times_one}
use Rattle.choice.specs.PrivateReduced.{Echelon, Basis, Cleared, Extended}

-- ---- clearing a row, index by index

pub cleared_start : (m : ℕ) (e : Matrix) (v : ℕ → ℕ) → BytesTo m v → Cleared 0 m e v v
cleared_start m e v bytes = record { bytes = bytes; added = spanned_zero m m e (λ i l. xor_self (v i)); clear = λ p l. absurd (omega arith) }

-- no reduced row has its pivot there
pub cleared_skip : (n m : ℕ) (e : Matrix) (v out : ℕ → ℕ) → e n n ≡ 0 → Cleared n m e v out → Cleared (n + 1) m e v out
cleared_skip n m e v out none C = record { bytes = C.bytes; added = C.added; clear = λ p l one. go p l one (ℕ_discrete p n) }
  where
    go : (p : ℕ) → p < n + 1 → e p p ≡ 1 → Dec (p ≡ n) → out p ≡ 0
    go p l one (yes q) = let both : ◌≡◌ {A = ℕ} 1 0 = sym one ∙ ap₂ e q q ∙ none in absurd (omega arith)
    go p l one (no q) = C.clear p (omega arith) one

pub cleared_step : (n m : ℕ) (e : Matrix) (v out out' : ℕ → ℕ) → n < m → Echelon m e → Cleared n m e v out → ((i : ℕ) → i < m → out' i ≡ plus (out i) (times (out n) (e n i))) → Cleared (n + 1) m e v out'
cleared_step n m e v out out' there E C next =
    record {
      bytes = λ i l. subst (λ (x : ℕ). x < 256) (sym (next i l)) (xor_lt 8 _ _ (C.bytes i l) (times_lt (out n) (e n i)));
      added =
          spanned_same m m e (λ i l. ap (plus (v i)) (next i l) ∙ simp xors)
          (spanned_plus m m e C.added (spanned_scale m m e (out n) (spanned_row m m e n there (λ i l. E.bytes n i there l))));
      clear = λ p l one. go p l one (ℕ_discrete p n);
    }
  where
    go : (p : ℕ) → p < n + 1 → e p p ≡ 1 → Dec (p ≡ n) → out' p ≡ 0
    go p l one (yes q) =
        ap out' q ∙ next n there ∙ ap (λ (x : ℕ). plus (out n) (times (out n) x)) (ap₂ e (sym q) (sym q) ∙ one)
        ∙ ap (plus (out n)) (times_one (C.bytes n there)) ∙ xor_self (out n)
    go p l one (no q) =
        next p (omega arith) ∙ ap (λ (x : ℕ). plus (out p) (times (out n) x)) (E.before n p there (omega arith))
        ∙ ap (plus (out p)) (times_zero (out n)) ∙ xor_zero_r (out p) ∙ C.clear p (omega arith) one

-- ---- a combination of reduced rows that is zero at their pivots is zero

module _ (m : ℕ) (e : Matrix) (E : Echelon m e) (y : ℕ → ℕ) (clear : (p : ℕ) → p < m → e p p ≡ 1 → mixed m y e p ≡ 0) where
  -- the rows past p are zero at p
  shorter : (p : ℕ) → p < m → mixed m y e p ≡ mixed (p + 1) y e p
  unfolding mixed
  shorter p h =
      let terms : ℕ → ℕ = λ j. times (y j) (e j p) in
      let q : m ≡ p + 1 + (m - (p + 1)) = omega arith in
      ap (λ (n : ℕ). sum n terms) q ∙ sum_split (p + 1) (m - (p + 1)) terms
      ∙ ap (plus (sum (p + 1) terms))
      (sum_zero (m - (p + 1)) _ (λ i l. ap (times (y (p + 1 + i))) (E.before (p + 1 + i) p (omega arith) (omega arith)) ∙ times_zero (y (p + 1 + i))))
      ∙ xor_zero_r (sum (p + 1) terms)

  -- the coefficient of a row that has a pivot is zero, as far as a product sees it
  no_coefficient : (p : ℕ) → p < m → mixed p y e p ≡ 0 → e p p ≡ 1 → y p % 256 ≡ 0
  unfolding mixed
  no_coefficient p h before one =
      sym (one_times_low (y p)) ∙ times_comm 1 (y p) ∙ ap (times (y p)) (sym one)
      ∙ ap (λ (x : ℕ). plus x (times (y p) (e p p))) (sym before)
      ∙ sum_more p (λ j. times (y j) (e j p)) refl refl ∙ sym (shorter p h) ∙ clear p h one

  no_part : (p : ℕ) → p < m → mixed p y e p ≡ 0 → (i : ℕ) → i < m → times (y p) (e p i) ≡ 0
  no_part p h before i l =
      ⊎_elim
      (λ (one : e p p ≡ 1). sym (times_mod_left (y p) (e p i)) ∙ ap (λ (x : ℕ). times x (e p i)) (no_coefficient p h before one) ∙ zero_times (e p i))
      (λ (none : (i : ℕ) → i < m → e p i ≡ 0). ap (times (y p)) (none i l) ∙ times_zero (y p))
      (E.lead p h)

  parts_zero : (n : ℕ) → n ≤ m → (i : ℕ) → i < m → mixed n y e i ≡ 0
  unfolding mixed
  parts_zero zero h i l = sym (sum_none _)
  parts_zero (suc n) h i l =
      let before = parts_zero n (omega arith) in
      sum_last n (λ j. times (y j) (e j i)) ∙ ap₂ plus (before i l) (no_part n (omega arith) (before n (omega arith)) i l)

echelon_zero : (m : ℕ) (e : Matrix) (w : ℕ → ℕ) → Echelon m e → Spanned m m e w → ((p : ℕ) → p < m → e p p ≡ 1 → w p ≡ 0) → (i : ℕ) → i < m → w i ≡ 0
echelon_zero m e w E s clear i l = s.1 i l ∙ parts_zero m e E s.0 (λ p h one. sym (s.1 p h) ∙ clear p h one) m (omega arith) i l

-- ---- rows that agree below k, and perhaps one more

spanned_wider : (k m : ℕ) (a a' : Matrix) → ((j i : ℕ) → a' j i < 256) → ((j i : ℕ) → j < k → i < m → a j i ≡ a' j i) → {w : ℕ → ℕ}
    → Spanned k m a w → Spanned (k + 1) m a' w
spanned_wider k m a a' low same =
    spanned_through (k + 1) m a' k a (λ j l. spanned_same (k + 1) m a' (λ i b. same j i l b) (spanned_row (k + 1) m a' j (omega arith) (λ i b. low j i)))

-- ---- the row that was cleared

module _ (k m : ℕ) (a e : Matrix) (B : Basis k m a e) (v out : ℕ → ℕ) (C : Cleared m m e v out) where
  -- all zero: it is a combination
  pub spanned_if_zero : ((i : ℕ) → i < m → out i ≡ 0) → Spanned k m a v
  spanned_if_zero z =
      spanned_through k m a m e B.made (spanned_same m m e (λ i l. sym (ap (plus (v i)) (z i l) ∙ xor_zero_r (v i))) C.added)

  -- not all zero: it is none
  pub apart_if_not : (p : ℕ) → p < m → out p ≢ 0 → ¬ Spanned k m a v
  apart_if_not p h not s =
      let both : Spanned m m e out =
      spanned_same m m e (λ i l. sym (xor_cancel (v i) (out i))) (spanned_plus m m e (spanned_through m m e k a B.spans s) C.added) in
      not (echelon_zero m e out B.echelon both C.clear p h)

-- ---- one row more

-- a row of zeros
pub basis_kept : (k m : ℕ) (a e : Matrix) → Basis k m a e → ((j i : ℕ) → a j i < 256) → ((i : ℕ) → i < m → a k i ≡ 0) → Basis (k + 1) m a e
basis_kept k m a e B low none =
    record {
      echelon = B.echelon;
      made = λ p l. spanned_wider k m a a low (λ j i b c. refl) (B.made p l);
      spans = λ j l.
          elim (ℕ_discrete j k) [ yes q ↦ spanned_zero m m e (λ i b. ap (λ (x : ℕ). a x i) q ∙ none i b) | no q ↦ B.spans j (omega arith) ];
    }

-- row k, cleared to `out`, with its pivot at p
module _ (k m : ℕ) (a a' e e' : Matrix) (out : ℕ → ℕ) (p : ℕ) (B : Basis k m a e) (C : Cleared m m e (a' k) out) (X : Extended p e out e')
    (width : m ≤ 16) (there : p < m) (zeros : (i : ℕ) → i < p → out i ≡ 0) (not : out p ≢ 0)
    (low : (j i : ℕ) → a' j i < 256) (same : (j i : ℕ) → j < k → i < m → a j i ≡ a' j i) where
  -- no reduced row had its pivot there
  free : (i : ℕ) → i < m → e p i ≡ 0
  free = ⊎_elim (λ (one : e p p ≡ 1). absurd (not (C.clear p there one))) (λ (none : (i : ℕ) → i < m → e p i ≡ 0). none) (B.echelon.lead p there)

  one_there : e' p p ≡ 1
  one_there =
      X.new p (omega arith) ∙ times_comm (inverse_of (out p)) (out p) ∙ times_inverse (out p) (omega (arith, not)) (C.bytes p there)

  -- the cleared row, of the new row
  back : (i : ℕ) → i < m → out i ≡ times (out p) (e' p i)
  back i l =
      sym (ap (times (out p)) (X.new i (omega arith)) ∙ sym (times_assoc (out p) (inverse_of (out p)) (out i))
      ∙ ap (λ (x : ℕ). times x (out i)) (times_inverse (out p) (omega (arith, not)) (C.bytes p there)) ∙ one_times (C.bytes i l))

  echelon' : Echelon m e'
  echelon' =
      record {
        bytes = λ q i h l.
            elim (ℕ_discrete q p) [
              | yes r ↦ subst (λ (x : ℕ). x < 256) (sym (ap (λ (x : ℕ). e' x i) r ∙ X.new i (omega arith))) (times_lt (inverse_of (out p)) (out i))
              | no r ↦ subst (λ (x : ℕ). x < 256) (sym (X.old q i r)) (B.echelon.bytes q i h l)
            ];
        before = λ q i h l.
            elim (ℕ_discrete q p) [
              | yes r ↦
                  ap (λ (x : ℕ). e' x i) r ∙ X.new i (omega arith) ∙ ap (times (inverse_of (out p))) (zeros i (omega arith))
                  ∙ times_zero (inverse_of (out p))
              | no r ↦ X.old q i r ∙ B.echelon.before q i h l
            ];
        lead = λ q h.
            elim (ℕ_discrete q p) [
              | yes r ↦ inl (ap₂ e' r r ∙ one_there)
              | no r ↦
                  ⊎_elim (λ (one : e q q ≡ 1). inl (X.old q q r ∙ one))
                  (λ (none : (i : ℕ) → i < m → e q i ≡ 0). inr (λ i l. X.old q i r ∙ none i l)) (B.echelon.lead q h)
            ];
      }

  wider : {w : ℕ → ℕ} → Spanned k m a w → Spanned (k + 1) m a' w
  wider = spanned_wider k m a a' low same

  -- what the reduced rows spanned they span still
  still : {w : ℕ → ℕ} → Spanned m m e w → Spanned m m e' w
  still =
      spanned_through m m e' m e (λ q l.
      elim (ℕ_discrete q p) [
        | yes r ↦ spanned_zero m m e' (λ i b. ap (λ (x : ℕ). e x i) r ∙ free i b)
        | no r ↦ spanned_same m m e' (λ i b. sym (X.old q i r)) (spanned_row m m e' q l (λ i b. echelon'.bytes q i l b))
      ])

  made' : (q : ℕ) → q < m → Dec (q ≡ p) → Spanned (k + 1) m a' (e' q)
  made' q l (yes r) =
      spanned_same (k + 1) m a' (λ i b. ap (λ (x : ℕ). e' x i) r ∙ X.new i (omega arith) ∙ ap (times (inverse_of (out p))) (sym (xor_cancel (a' k i) (out i))))
      (spanned_scale (k + 1) m a' (inverse_of (out p))
      (spanned_plus (k + 1) m a' (spanned_row (k + 1) m a' k (omega arith) (λ i b. low k i)) (wider (spanned_through k m a m e B.made C.added))))
  made' q l (no r) = spanned_same (k + 1) m a' (λ i b. X.old q i r) (wider (B.made q l))

  spans' : (j : ℕ) → j < k + 1 → Dec (j ≡ k) → Spanned m m e' (a' j)
  spans' j l (yes r) =
      spanned_same m m e' (λ i b. ap (λ (x : ℕ). a' x i) r ∙ simp xors)
      (spanned_plus m m e' (still C.added) (spanned_same m m e' back (spanned_scale m m e' (out p) (spanned_row m m e' p there (λ i b. echelon'.bytes p i there b)))))
  spans' j l (no r) = spanned_same m m e' (λ i b. sym (same j i (omega arith) b)) (still (B.spans j (omega arith)))

  pub basis_more : Basis (k + 1) m a' e'
  basis_more = record { echelon = echelon'; made = λ q l. made' q l (ℕ_discrete q p); spans = λ j l. spans' j l (ℕ_discrete j k) }
