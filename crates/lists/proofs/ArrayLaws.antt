-- An array made of a slice by `try_from`. Assumes nothing.
use mathlib.Core.Path.{◌∙◌}
use Rattle.std.specs.Prelude.{ℕ, ◌≡◌, List, Result, Ok, Err, MatchResult}
use Rattle.std.specs.Array.{IsWholeChunk}

-- where the slice has the array's length the array has its elements
pub array_is : {E : Type 0} (n : ℕ) (xs : List ℕ) (r : Result (List ℕ) E) (P : E → Type 0) {ys : List ℕ}
    → MatchResult r (λ y. IsWholeChunk xs y n) P → r ≡ Ok ys → ys ≡ xs
array_is n xs (Ok y) P {ys = ys} w e = let q : ys ≡ y = cc in q ∙ w.same
array_is n xs (Err d) P w e = cc
