-- Where rows stand in bytes. It does not name the struct of which it is a fact.
use Rattle.std.specs.Prelude.{ℕ, ◌+◌, ◌*◌, ◌<◌, ◌≤◌, List, length}

-- at most 48 rows of at most 16 elements, and all stand in the bytes: row k begins at start + k * stride
abbrev pub Standing : (start stride count m : ℕ) (u : List ℕ) → Type 0
Standing start stride count m u =
    (count ≤ 48) × (m ≤ 16) × ((k : ℕ) → k < count → start + k * stride + m ≤ length u)
