-- What bytes that mark candidates say of each row. Assumes nothing.
use Prim.Native.Nat.{ℕ, zero, suc, ◌<◌}
use mathlib.Core.Path.{◌≡◌, refl, sym, ap, ◌∙◌}
use mathlib.Core.Bool.{Bool, false, not}
use mathlib.Core.List.{List, [], ◌∷◌}
use native.Mathlib.Omega.{arith}
use lib.Dec.{eqb}
use lib.ListN.{length, get_or}
use lib.Seq.{ext_get_or}
use Rattle.lists.specs.Lists.{at}
use Rattle.choice.specs.PrivateMarks.{not_zero}
use Rattle.choice.specs.PrivateChoice.{offered}

length_not_zero : (bytes : List ℕ) → length (not_zero bytes) ≡ length bytes
unfolding not_zero
length_not_zero [] = refl
length_not_zero (b ∷ bs) = ap suc (length_not_zero bs)

-- row k is a candidate where its byte is not zero
pub not_zero_at : (bytes : List ℕ) (k : ℕ) → offered (not_zero bytes) k ≡ not (eqb (at bytes k) 0)
unfolding not_zero
not_zero_at [] k = refl
not_zero_at (b ∷ bs) zero = refl
not_zero_at (b ∷ bs) (suc k) = not_zero_at bs k

-- a mark for each byte that says whether it is zero
pub is_not_zero : (bytes : List ℕ) (marks : List Bool) → length marks ≡ length bytes → ((k : ℕ) → k < length bytes → get_or marks k false ≡ not (eqb (at bytes k) 0))
    → marks ≡ not_zero bytes
is_not_zero bytes marks l h =
    ext_get_or false marks (not_zero bytes) (l ∙ sym (length_not_zero bytes))
    (λ (k : ℕ) b. h k (omega (arith, l)) ∙ sym (not_zero_at bytes k))
