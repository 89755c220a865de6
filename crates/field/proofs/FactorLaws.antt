-- The zero-or-one factor of two operands, and a power of 03 times it. Assumes nothing.
use mathlib.Core.Path.{◌≡◌, sym, ap, ap₂, ◌∙◌}
use mathlib.Core.Logic.{◌↔◌, ⊎_elim}
use Prim.Native.Nat.{ℕ, ◌+◌, ◌*◌, ◌<◌, ◌≤◌}
use native.Mathlib.Nat.{mul-le-mul, mul-le-mul_left, mul-pos, mul_comm, zero-mul, mul-zero, mul-one, eq-zero-or-pos}
use native.Mathlib.Omega.{arith}
use Rattle.lists.proofs.TabLaws.{order}
use Rattle.field.specs.Field.{times, power}
use Rattle.field.proofs.TimesLaws.{zero_times, times_zero}
use Rattle.field.proofs.PowerLaws.{power_add}

-- ---- the ordinary product of two bytes

pub ordinary_low : (a b : ℕ) → a < 256 → b < 256 → a * b ≤ 255 * 255
ordinary_low a b h k = mul-le-mul {n₁ = a} {m₁ = b} {n₂ = 255} {m₂ = 255} (omega arith) (omega arith)

-- it is zero where an operand is, and there alone
pub ordinary_some : (a b : ℕ) → (0 < a * b) ↔ ((0 < a) × (0 < b))
ordinary_some a b = (λ h. (left a b h, left b a (rw (mul_comm b a) h)), λ h. mul-pos h.0 h.1)
  where
    left : (x y : ℕ) → 0 < x * y → 0 < x
    left x y h = ⊎_elim (λ (z : x ≡ 0). absurd (omega (arith, ap (λ (w : ℕ). w * y) z ∙ zero-mul y))) (λ (p : 0 < x). p) (eq-zero-or-pos x)

-- ---- the product by the factor

pub factored_low : (p f : ℕ) → p < 256 → f < 2 → p * f < 256
factored_low p f h k = omega (arith, mul-le-mul_left {m = f} {n = 1} p (omega arith))

module _ (a b f : ℕ) (bit : f < 2) (one : (f ≡ 1) ↔ ((0 < a) × (0 < b))) where
  -- an operand is zero
  none : f ≡ 0 → 0 ≡ times a b
  none z =
      ⊎_elim
      (λ (l : a < 1). let e : a ≡ 0 = omega arith in sym (ap (λ (x : ℕ). times x b) e ∙ zero_times b))
      (λ (l : 1 ≤ a).
      ⊎_elim
      (λ (m : b < 1). let e : b ≡ 0 = omega arith in sym (ap (times a) e ∙ times_zero a))
      (λ (m : 1 ≤ b). absurd (omega (arith, one.1 (l, m))))
      (order b 1))
      (order a 1)

  -- the product: k and l are logarithms where there are any
  pub factored : (k l : ℕ) {p : ℕ} → (0 < a → power 3 k ≡ a) → (0 < b → power 3 l ≡ b) → p ≡ power 3 (k + l) → p * f ≡ times a b
  factored k l {p} ea eb e =
      ⊎_elim
      (λ (z : f < 1). let q : f ≡ 0 = omega arith in ap (λ (x : ℕ). p * x) q ∙ mul-zero p ∙ none q)
      (λ (o : 1 ≤ f).
      let q : f ≡ 1 = omega arith in
      let h = one.0 q in
      ap (λ (x : ℕ). p * x) q ∙ mul-one p ∙ e ∙ power_add 3 k l ∙ ap₂ times (ea h.0) (eb h.1))
      (order f 1)
