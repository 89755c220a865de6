-- What is checked of the elements of a list one by one holds at each index. Assumes nothing.
use Prim.Native.Nat.{ℕ, zero, suc, ◌<◌}
use mathlib.Core.List.{List, [], ◌∷◌}
use native.Mathlib.Omega.{arith}
use lib.ListN.{length}
use Rattle.lists.specs.Lists.{at, Bytes}

-- what holds of the elements of a list, one by one, holds at each index
abbrev pub Each : (ℕ → Type 0) → List ℕ → Type 0
Each P [] = Unit {0}
Each P (x ∷ xs) = P x × Each P xs

pub each : (P : ℕ → Type 0) (xs : List ℕ) → Each P xs → (i : ℕ) → i < length xs → P (at xs i)
each P [] h i l = absurd (omega arith)
each P (x ∷ xs) h zero l = h.0
each P (x ∷ xs) h (suc i) l = each P xs h.1 i (omega arith)

pub bytes_each : (xs : List ℕ) → Each (λ x. x < 256) xs → Bytes xs
bytes_each = each (λ x. x < 256)
