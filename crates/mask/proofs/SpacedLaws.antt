-- Stores at equal distances. Assumes nothing.
use Prim.Native.Nat.{ℕ, zero, suc, ◌+◌, ◌*◌, ◌<◌, ◌≤◌}
use mathlib.Core.Path.{◌≡◌, refl, sym, ap, ◌∙◌}
use mathlib.Core.List.{List}
use mathlib.Core.Logic.{⊎_elim, ◌≢◌}
use native.Mathlib.Omega.{arith}
use native.Mathlib.Nat.{eq-or-lt_of_le, mul-le-mul_right}
use native.Mathlib.Numerals.{add-one}
use lib.ListN.{length, set, length-set}
use lib.Seq.{get_or-set_same, get_or-set_other}
use Rattle.lists.specs.Lists.{at}
use Rattle.lists.proofs.TabLaws.{order}
use Rattle.mask.specs.PrivateSpaced.{spaced}

pub length_spaced : (n step first : ℕ) (f : ℕ → ℕ) (d : List ℕ) → length (spaced n step first f d) ≡ length d
unfolding spaced
length_spaced zero step first f d = refl
length_spaced (suc n) step first f d = length-set (spaced n step first f d) (n * step + first) (f n) ∙ length_spaced n step first f d

-- no store; one more
pub spaced_none : (step first : ℕ) (f : ℕ → ℕ) (d : List ℕ) → d ≡ spaced 0 step first f d
unfolding spaced
spaced_none step first f d = refl

pub spaced_more : (n step first : ℕ) (f : ℕ → ℕ) (d : List ℕ) {s : List ℕ} {v : ℕ} → s ≡ spaced n step first f d → v ≡ f n
    → set s (n * step + first) v ≡ spaced (n + 1) step first f d
unfolding spaced
spaced_more n step first f d e h = rw (add-one, e, h)

-- cells of different rows, or at different places in one, are different
apart : (s k step j first : ℕ) → j < step → first < step → s < k → s * step + j ≢ k * step + first
apart s k step j first hj hf l e = absurd (omega (arith, mul-le-mul_right {m = s + 1} {n = k} step (omega arith)))

pub spaced_at : (n step first : ℕ) (f : ℕ → ℕ) (d : List ℕ) (s : ℕ) → s < n → first < step → n * step ≤ length d
    → at (spaced n step first f d) (s * step + first) ≡ f s
unfolding spaced
spaced_at zero step first f d s h hf r = absurd (omega arith)
spaced_at (suc n) step first f d s h hf r =
    ⊎_elim
    (λ (e : s ≡ n).
    rw e (get_or-set_same (spaced n step first f d) (n * step + first) (f n) 0 (omega (arith, length_spaced n step first f d))))
    (λ (l : s < n).
    get_or-set_other (spaced n step first f d) (n * step + first) (s * step + first) (f n) 0
    (λ e. apart s n step first first hf hf l e)
    ∙ spaced_at n step first f d s l hf (omega arith))
    (eq-or-lt_of_le {n = s} {m = n} (omega arith))

pub spaced_other : (n step first : ℕ) (f : ℕ → ℕ) (d : List ℕ) (s j : ℕ) → first < step → j < step → j ≢ first
    → at (spaced n step first f d) (s * step + j) ≡ at d (s * step + j)
unfolding spaced
spaced_other zero step first f d s j hf hj ne = refl
spaced_other (suc n) step first f d s j hf hj ne =
    get_or-set_other (spaced n step first f d) (n * step + first) (s * step + j) (f n) 0 (λ e.
    ⊎_elim
    (λ (l : s < n). apart s n step j first hj hf l e)
    (λ (l : n ≤ s).
    ⊎_elim
    (λ (q : n ≡ s). let z : n * step ≡ s * step = ap (λ k. k * step) q in ne (omega arith))
    (λ (m : n < s). apart n s step first j hf hj m (sym e))
    (eq-or-lt_of_le {n = n} {m = s} l))
    (order s n))
    ∙ spaced_other n step first f d s j hf hj ne

-- with the columns before column i as they should be, one more
pub column_more : (tags step i : ℕ) (f : ℕ → ℕ → ℕ) (value : ℕ → ℕ) (d : List ℕ) {s : List ℕ} → length d ≡ tags * step → i < step
    → s ≡ spaced tags step i value d → ((k : ℕ) → k < tags → value k ≡ f k i)
    → ((k j : ℕ) → k < tags → j < i → at d (k * step + j) ≡ f k j) → (k j : ℕ) → k < tags → j < i + 1 → at s (k * step + j) ≡ f k j
column_more tags step i f value d e low w v h k j l lj =
    ap (λ (x : List ℕ). at x (k * step + j)) w
    ∙ ⊎_elim
    (λ (q : j ≡ i). rw q (spaced_at tags step i value d k l low (omega arith) ∙ v k l))
    (λ (m : j < i). spaced_other tags step i value d k j low (omega arith) (λ z. omega arith) ∙ h k j l m)
    (eq-or-lt_of_le {n = j} {m = i} (omega arith))
