-- Lists of numbers by index: what every layer's definitions are written with.
use Rattle.std.specs.Prelude.{ℕ, zero, suc, ◌+◌, ◌-◌, ◌*◌, ◌<◌, Bool, true, false, List, [], ◌∷◌, ◌++◌, length, get_or, set, eqb, ltb}

-- a where the test holds, else b
abbrev pub pick : {A : Type 0} → Bool → A → A → A
pick true a b = a
pick false a b = b

-- element i, counted from 0; 0 past the end
abbrev pub at : (xs : List ℕ) (i : ℕ) → ℕ
at xs i = get_or xs i 0

-- f 0, f 1, .. : n values in a row
unfoldable pub tab : (n : ℕ) (f : ℕ → ℕ) → List ℕ
tab zero f = []
tab (suc n) f = tab n f ++ (f n ∷ [])

-- g, but f (counted from 0) at the n indices from `from` on
unfoldable pub over : {A : Type 0} (from n : ℕ) (f g : ℕ → A) (i : ℕ) → A
over from n f g i = pick (ltb i from) (g i) (pick (ltb i (from + n)) (f (i - from)) (g i))

-- xs, then zeros up to n elements
unfoldable pub zero_padded : (n : ℕ) (xs : List ℕ) → List ℕ
zero_padded n xs = xs ++ tab (n - length xs) (λ i. 0)

-- n rows of m values each, row after row
unfoldable pub flat : (n m : ℕ) (f : ℕ → ℕ → ℕ) → List ℕ
flat zero m f = []
flat (suc n) m f = flat n m f ++ tab m (f n)

-- d with f j at each index `from` + j, for j below n
unfoldable pub put : (n from : ℕ) (f : ℕ → ℕ) (d : List ℕ) → List ℕ
put zero from f d = d
put (suc n) from f d = set (put n from f d) (from + n) (f n)

-- n rows of m stores each: f t j stands at `from` + t * m + j
unfoldable pub grid : (n m from : ℕ) (f : ℕ → ℕ → ℕ) (d : List ℕ) → List ℕ
grid zero m from f d = d
grid (suc n) m from f d = put m (from + n * m) (f n) (grid n m from f d)

-- ---- tests

-- some test of the list holds
unfoldable pub any_of : List Bool → Bool
any_of [] = false
any_of (t ∷ ts) = pick t true (any_of ts)

-- some index below n passes
unfoldable pub any_below : (n : ℕ) (p : ℕ → Bool) → Bool
any_below zero p = false
any_below (suc n) p = pick (p n) true (any_below n p)

-- ---- counting and choosing

abbrev pub bit : Bool → ℕ
bit true = 1
bit false = 0

-- how many indices below n pass
unfoldable pub how_many : (n : ℕ) (p : ℕ → Bool) → ℕ
how_many zero p = 0
how_many (suc n) p = how_many n p + bit (p n)

-- f of each index below n that passes, the indices rising
unfoldable pub filtered : (n : ℕ) (p : ℕ → Bool) (f : ℕ → ℕ) → List ℕ
filtered zero p f = []
filtered (suc n) p f = filtered n p f ++ pick (p n) (f n ∷ []) []

-- a value is one of them
abbrev pub holds : (xs : List ℕ) (v : ℕ) → Bool
holds [] v = false
holds (x ∷ xs) v = pick (eqb v x) true (holds xs v)

-- every element is a byte
abbrev pub Bytes : (xs : List ℕ) → Type 0
Bytes xs = (i : ℕ) → i < length xs → at xs i < 256
