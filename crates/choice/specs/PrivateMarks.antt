-- The candidates that bytes mark.
use Rattle.std.specs.Prelude.{ℕ, Bool, not, List, [], ◌∷◌, eqb}

-- of each byte, whether it is not zero
unfoldable pub not_zero : (bytes : List ℕ) → List Bool
not_zero [] = []
not_zero (b ∷ bs) = not (eqb b 0) ∷ not_zero bs
