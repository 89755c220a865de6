-- The response, its bytes and its parts (SCHEME, Messages). Elements count from 0 here, so those in clear are n - 2 and n - 1.
use Rattle.std.specs.Prelude.{ℕ, ◌+◌, ◌-◌, List, [], ◌∷◌, ◌++◌, take, drop, ltb}
use Rattle.lists.specs.Lists.{pick, at, tab}
use Rattle.field.specs.Field.{plus}
use Rattle.bits.specs.Fields.{◌wide◌, pack}
use Rattle.sizes.specs.Lengths.{seed_length, seed_start, sum_at, clear_start, tag_at}

-- its first byte, for a node (the scheme: box)
abbrev pub response_head : (node : ℕ) → List ℕ
response_head node = pack ((4 wide 2) ∷ (3 wide node) ∷ (1 wide 0) ∷ [])

-- of a block, its tags, what hides it, the seed and the mask sums, by tag
unfoldable pub response_bytes : (n tags node : ℕ) (block tag hidden : ℕ → ℕ) (seed : List ℕ) (total : ℕ → ℕ) → List ℕ
response_bytes n tags node block tag hidden seed total =
    response_head node
    ++ (tab (n - 2) (λ e. plus (block e) (hidden e))
    ++ (seed ++ (tab tags total ++ ((block (n - 2) ∷ block (n - 1) ∷ []) ++ tab tags tag))))

-- ---- its parts

-- of the n data elements, those masked
abbrev pub masked_in : (response : List ℕ) (e : ℕ) → ℕ
masked_in response e = at response (1 + e)

-- all of them: those masked and then those in clear
unfoldable pub data_in : (n tags : ℕ) (response : List ℕ) (e : ℕ) → ℕ
data_in n tags response e = pick (ltb e (n - 2)) (masked_in response e) (at response (clear_start n tags + (e - (n - 2))))

unfoldable pub seed_in : (n : ℕ) (response : List ℕ) → List ℕ
seed_in n response = take seed_length (drop (seed_start n) response)

-- mask sum s and tag s
abbrev pub sum_in : (n : ℕ) (response : List ℕ) (s : ℕ) → ℕ
sum_in n response s = at response (sum_at n s)

abbrev pub tag_in : (n tags : ℕ) (response : List ℕ) (s : ℕ) → ℕ
tag_in n tags response s = at response (tag_at n tags s)
