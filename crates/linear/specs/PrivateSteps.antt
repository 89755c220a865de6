-- What the private contracts cite. A row operation acts on every column of a matrix alike: it is a function of a column.
use Rattle.std.specs.Prelude.{ℕ, ◌<◌, ◌≡◌, List, eqb}
use Rattle.lists.specs.Lists.{pick}
use Rattle.field.specs.Field.{plus, times}
use Rattle.linear.specs.PrivateElimination.{cells}

abbrev pub Vec : Type 0
Vec = ℕ → ℕ

-- a where the index p is r, else b
unfoldable pub sel : (p r a b : ℕ) → ℕ
sel p r a b = pick (eqb p r) a b

-- 1 at the index q, else 0
abbrev pub unit_at : ℕ → Vec
unit_at q i = sel i q 1 0

-- rows i and j change places
abbrev pub swap : (i j p : ℕ) → ℕ
swap i j p = sel p i j (sel p j i p)

abbrev pub swap_op : ℕ → ℕ → Vec → Vec
swap_op i j u p = u (swap i j p)

-- row r is multiplied by c
abbrev pub scale_op : ℕ → ℕ → Vec → Vec
scale_op r c u p = sel p r (times c (u p)) (u p)

-- b p times row r is added to each other row p
abbrev pub clear_op : ℕ → Vec → Vec → Vec
clear_op r b u p = sel p r (u p) (plus (u p) (times (b p) (u r)))

-- the operation f makes the matrix s of the matrix a, in the first k rows
abbrev pub Operated : (k : ℕ) (f : Vec → Vec) (a s : List (List ℕ)) → Type 0
Operated k f a s = (i j : ℕ) → i < k → j < 16 → cells s i j ≡ f (λ l. cells a l j) i
