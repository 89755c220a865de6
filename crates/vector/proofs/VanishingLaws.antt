-- A combination of n + 1 rows that vanishes: the others vanish too where its last coefficient is zero, else give the last row. Assumes nothing.
use Prim.Native.Nat.{ℕ, suc, ◌<◌}
use mathlib.Core.Path.{◌≡◌, refl, sym, ap, ◌∙◌}
use mathlib.Core.Logic.{⊎_elim}
use native.Mathlib.Nat.{eq-zero-or-pos, eq-or-lt_of_le, le_of_suc-le-suc}
use Rattle.field.specs.Field.{times, inverse_of}
use Rattle.field.proofs.XorLaws.{xor_equal}
use Rattle.field.proofs.SumLaws.{sum_last}
use Rattle.field.proofs.TimesLaws.{times_comm, times_assoc, zero_times, one_times}
use Rattle.field.proofs.InverseLaws.{times_inverse}
use Rattle.vector.specs.Vectors.{mixed}
use Rattle.vector.specs.Taken.{Spanned}
use Rattle.vector.proofs.SpanLaws.{spanned_same, spanned_scale}

undone : (a x : ℕ) → 0 < a → a < 256 → x < 256 → times (inverse_of a) (times a x) ≡ x
undone a x p h b =
    sym (times_assoc (inverse_of a) a x) ∙ ap (λ (c : ℕ). times c x) (times_comm (inverse_of a) a ∙ times_inverse a p h) ∙ one_times b

module _ (n m : ℕ) (row : ℕ → ℕ → ℕ) (d : ℕ → ℕ) (vanish : (i : ℕ) → i < m → mixed (suc n) d row i ≡ 0) where
  -- the others give the last row times its coefficient
  others : (i : ℕ) → i < m → mixed n d row i ≡ times (d n) (row n i)
  unfolding mixed
  others i l = xor_equal (sym (sum_last n _) ∙ vanish i l)

  pub without_last : d n ≡ 0 → (i : ℕ) → i < m → mixed n d row i ≡ 0
  without_last e i l = others i l ∙ ap (λ (x : ℕ). times x (row n i)) e ∙ zero_times (row n i)

  module _ (low : (i : ℕ) → row n i < 256) (byte : d n < 256) where
    pub last_spanned : 0 < d n → Spanned n m row (row n)
    last_spanned p =
        spanned_same n m row (λ i l. sym (ap (times (inverse_of (d n))) (others i l) ∙ undone (d n) (row n i) p byte (low i)))
        (spanned_scale n m row (inverse_of (d n)) (d, λ i l. refl))

    -- all coefficients are zero, where the last is zero if its row is a combination of the others, and the others are zero if they vanish
    pub zero_more : (Spanned n m row (row n) → d n ≡ 0) → (((i : ℕ) → i < m → mixed n d row i ≡ 0) → (t : ℕ) → t < n → d t ≡ 0)
        → (t : ℕ) → t < suc n → d t ≡ 0
    zero_more unused before t h =
        let last : d n ≡ 0 = ⊎_elim (λ (e : d n ≡ 0). e) (λ (p : 0 < d n). unused (last_spanned p)) (eq-zero-or-pos (d n)) in
        ⊎_elim (λ (e : t ≡ n). ap d e ∙ last) (λ (l : t < n). before (without_last last) t l) (eq-or-lt_of_le (le_of_suc-le-suc h))
