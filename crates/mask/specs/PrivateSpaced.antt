-- What stores at equal distances make of a buffer.
use Rattle.std.specs.Prelude.{ℕ, zero, suc, ◌+◌, ◌*◌, List, set}

-- d with f s at each index s * step + first, for s below n
unfoldable pub spaced : (n step first : ℕ) (f : ℕ → ℕ) (d : List ℕ) → List ℕ
spaced zero step first f d = d
spaced (suc n) step first f d = set (spaced n step first f d) (n * step + first) (f n)
