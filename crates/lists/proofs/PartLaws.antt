-- Parts of a list. Assumes nothing.
use Prim.Native.Nat.{ℕ, ◌+◌, ◌-◌, ◌<◌, ◌≤◌}
use mathlib.Core.Path.{◌≡◌, ◌∙◌}
use mathlib.Core.List.{List}
use native.Mathlib.Omega.{arith}
use lib.ListN.{length, take, drop, length-take, length-drop}
use lib.Seq.{get_or-take, get_or-drop}
use Rattle.lists.specs.Lists.{at}

-- the part of a list from `first` to `end`, its length and its elements
abbrev pub part : ℕ → ℕ → List ℕ → List ℕ
part first end s = take (end - first) (drop first s)

pub length_part : (first end : ℕ) (s : List ℕ) → end ≤ length s → length (part first end s) ≡ end - first
length_part first end s h = simp (length-take, length-drop) (omega arith)

pub part_at : (first end : ℕ) (s : List ℕ) (e : ℕ) → e < end - first → at (part first end s) e ≡ at s (first + e)
part_at first end s e h = get_or-take (end - first) (drop first s) e 0 h ∙ get_or-drop first s e 0
