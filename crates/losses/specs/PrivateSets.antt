-- What the private contracts cite: all sets of six nodes in a row, and which of them may be listed.
use Rattle.std.specs.Prelude.{ℕ, ◌-◌, ◌^◌, ◌≡◌, Bool, true, false, length, eqb, ltb}
use Rattle.lists.specs.Lists.{pick}
use Rattle.bits.specs.Fields.{number}
use Rattle.archive.specs.Losses.{in_set, nodes_in}

-- set x: six bits are counted down from all ones, and node 0 is the first of them, the most significant
unfoldable pub set_at : (x : ℕ) → ℕ
set_at x = number (in_set (63 - x)) 6

-- a set has k nodes, and no other than the first `nodes`
unfoldable pub sized : (nodes k set : ℕ) → Bool
sized nodes k set = pick (ltb set (2 ^ nodes)) (eqb (length (nodes_in set)) k) false

-- a test decides a claim
abbrev pub Decides : (test : Bool) (P : Type 0) → Type 0
Decides test P = (test ≡ true → P) × (test ≡ false → ¬ P)
