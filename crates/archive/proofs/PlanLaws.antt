-- Plans on rows alone: where there is one, no vector rules it out; there is no second one; rows that agree have the same. Assumes nothing.
use Prim.Native.Nat.{ℕ, zero, suc, ◌+◌, ◌*◌, ◌<◌}
use mathlib.Core.Path.{◌≡◌, refl, sym, ap₂, ◌∙◌}
use mathlib.Core.List.{List}
use native.Mathlib.Nat.{mul-le-mul_right}
use native.Mathlib.Omega.{arith}
use lib.Bits.{xor_self, xor_lt}
use Rattle.lists.proofs.PutLaws.{is_flat}
use Rattle.field.specs.Field.{plus}
use Rattle.field.proofs.XorLaws.{xor_equal}
use Rattle.field.proofs.SumLaws.{sum_same, sum_plus}
use Rattle.field.proofs.TimesLaws.{times_xor_left}
use Rattle.sizes.specs.declared.Sizes.{Sizes}
use Rattle.vector.specs.Vectors.{mixed}
use Rattle.vector.specs.Taken.{Spanned}
use Rattle.vector.proofs.VectorLaws.{mixed_lt, mixed_vectors, product_same}
use Rattle.vector.proofs.SpanLaws.{spanned_rows, spanned_same, spanned_orthogonal}
use Rattle.vector.proofs.VanishingLaws.{zero_more}
use Rattle.vector.proofs.TakenLaws.{Alike}
use Rattle.archive.specs.Repair.{repair_byte}
use Rattle.archive.specs.Plan.{repair_row, theta_in, Planned, Unreachable}

pub repair_low : (z : Sizes) (s helpers : List ℕ) (q : ℕ) (gammas : List ℕ) (t i : ℕ) → repair_row z s helpers q gammas t i < 256
unfolding repair_byte
repair_low z s helpers q gammas t i = mixed_lt _ _ _ _

-- ---- a vector orthogonal to the repair rows is orthogonal to what they give

pub given_reached : (z : Sizes) (count : ℕ) (row wanted c : ℕ → ℕ → ℕ) → ((k i : ℕ) → k < z.places → i < z.m → mixed count (c k) row i ≡ wanted k i)
    → ¬ Unreachable z count row wanted
given_reached z count row wanted c gives u =
    u.not_orthogonal
    (spanned_orthogonal count z.m row u.v u.orthogonal (c u.place, λ i l. sym (gives u.place i u.there l)))

pub planned_reaches : (z : Sizes) (count : ℕ) (row wanted : ℕ → ℕ → ℕ) (thetas : List ℕ) → Planned z count row wanted thetas → ¬ Unreachable z count row wanted
planned_reaches z count row wanted thetas p = given_reached z count row wanted _ p.gives

-- ---- a combination that vanishes

-- its coefficients are zero, where those of rows that are combinations of the rows before them are
all_zero_lem : (m : ℕ) (row : ℕ → ℕ → ℕ) → ((t i : ℕ) → row t i < 256) → (d : ℕ → ℕ) (n : ℕ) → ((t : ℕ) → t < n → d t < 256)
    → ((t : ℕ) → t < n → Spanned t m row (row t) → d t ≡ 0) → ((i : ℕ) → i < m → mixed n d row i ≡ 0) → (t : ℕ) → t < n → d t ≡ 0
all_zero_lem m row low d zero bytes unused vanish t h = absurd (omega arith)
all_zero_lem m row low d (suc n) bytes unused vanish t h =
    zero_more n m row d vanish (low n) (bytes n (omega arith)) (unused n (omega arith))
    (all_zero_lem m row low d n (λ j b. bytes j (omega arith)) (λ j b. unused j (omega arith))) t h

-- ---- two plans

module _ (z : Sizes) (count : ℕ) (row wanted : ℕ → ℕ → ℕ) where
  theta_low : (thetas : List ℕ) → Planned z count row wanted thetas → (t k : ℕ) → t < count → k < z.places → theta_in z thetas t k < 256
  theta_low thetas p t k l h = p.bytes (t * z.places + k) (omega (arith, p.size, mul-le-mul_right z.places l))

  module _ (thetas thetas' : List ℕ) (low : (t i : ℕ) → row t i < 256) (p : Planned z count row wanted thetas) (p' : Planned z count row wanted thetas') where
    -- what they differ by combines the rows to zero
    gap_vanishes : (k i : ℕ) → k < z.places → i < z.m → mixed count (λ t. plus (theta_in z thetas t k) (theta_in z thetas' t k)) row i ≡ 0
    unfolding mixed
    gap_vanishes k i h l =
        sum_same count _ _ (λ t b. times_xor_left (theta_in z thetas t k) (theta_in z thetas' t k) (row t i)) ∙ sum_plus count _ _
        ∙ ap₂ plus (p.gives k i h l) (p'.gives k i h l) ∙ xor_self (wanted k i)

    theta_same : (t k : ℕ) → t < count → k < z.places → theta_in z thetas t k ≡ theta_in z thetas' t k
    theta_same t k l h =
        xor_equal
        (all_zero_lem z.m row low (λ j. plus (theta_in z thetas j k) (theta_in z thetas' j k)) count
        (λ j b. xor_lt 8 _ _ (theta_low thetas p j k b h) (theta_low thetas' p' j k b h))
        (λ j b s. ap₂ plus (p.unused j b s k h) (p'.unused j b s k h))
        (λ i b. gap_vanishes k i h b) t l)

    pub planned_only : thetas ≡ thetas'
    planned_only =
        is_flat count z.places (theta_in z thetas') thetas p.size theta_same
        ∙ sym (is_flat count z.places (theta_in z thetas') thetas' p'.size (λ t k l h. refl))

-- ---- sizes of the same m and places, and rows that agree

module _ (z z' : Sizes) (count : ℕ) (row row' wanted wanted' : ℕ → ℕ → ℕ) (same_m : z.m ≡ z'.m) (same_places : z.places ≡ z'.places)
    (rows : Alike count z.m row row') (wants : Alike z.places z.m wanted wanted') where
  pub unreachable_alike : Unreachable z count row wanted → Unreachable z' count row' wanted'
  unreachable_alike u =
      record {
        v = u.v;
        bytes = rw (← same_m) u.bytes;
        orthogonal = rw (← same_m) (λ t l. sym (product_same z.m (row t) (row' t) u.v (λ i h. rows t i l h)) ∙ u.orthogonal t l);
        place = u.place;
        there = rw (← same_places) u.there;
        not_orthogonal = rw (← same_m) (λ e.
            u.not_orthogonal (product_same z.m (wanted u.place) (wanted' u.place) u.v (λ i h. wants u.place i u.there h) ∙ e));
      }

  spanned_alike : (t : ℕ) → t < count → Spanned t z.m row' (row' t) → Spanned t z.m row (row t)
  spanned_alike t l s =
      spanned_same t z.m row (λ i h. rows t i l h) (spanned_rows t z.m row' row (λ j i b h. sym (rows j i (omega arith) h)) s)

  pub planned_alike : (thetas : List ℕ) → Planned z count row wanted thetas → Planned z' count row' wanted' thetas
  planned_alike thetas p =
      record {
        size = rw (← same_places) p.size;
        bytes = p.bytes;
        gives = rw (← same_m, ← same_places) (λ k i h l.
            sym (mixed_vectors count _ row row' i (λ t b. rows t i b l)) ∙ p.gives k i h l ∙ wants k i h l);
        unused = rw (← same_m, ← same_places) (λ t l s k h. p.unused t l (spanned_alike t l s) k h);
      }
