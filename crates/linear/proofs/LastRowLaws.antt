-- Independent rows and one more that is no combination of them are independent. Assumes nothing.
use Prim.Native.Nat.{ℕ, ◌+◌, ◌<◌}
use native.Mathlib.Numerals.{add-one}
use native.Mathlib.Omega.{arith}
use Rattle.vector.specs.Taken.{Spanned}
use Rattle.vector.proofs.VanishingLaws.{zero_more}
use Rattle.linear.specs.PrivateElimination.{Matrix, Independent}

pub independent_more : (k m : ℕ) (a : Matrix) → ((i j : ℕ) → a i j < 256) → Independent k m a → ¬ Spanned k m a (a k) → Independent (k + 1) m a
independent_more k m a low before apart y bytes vanish j l =
    zero_more k m a y (rw add-one at vanish) (low k) (bytes k (omega arith)) (λ s. absurd (apart s)) (before y (λ i h. bytes i (omega arith))) j (omega arith)
