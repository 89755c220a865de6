-- A response is accepted exactly when its changes against an accepted one add up, for every tag. Assumes nothing.
use Prim.Native.Nat.{ℕ, ◌+◌, ◌-◌, ◌<◌}
use mathlib.Core.Path.{◌≡◌, refl, sym, ap, ap₂, ◌∙◌}
use mathlib.Core.Bool.{Bool, true, false, not}
use mathlib.Core.List.{List}
use mathlib.Core.Logic.{◌↔◌}
use native.Mathlib.Omega.{arith}
use lib.Bits.{xor_self}
use lib.Dec.{ltb}
use Rattle.lists.specs.Lists.{pick}
use Rattle.lists.proofs.AnyLaws.{any_below_lem, any_none}
use Rattle.answer.proofs.RefusalLaws.{same, differs_same}
use Rattle.field.specs.Field.{plus}
use Rattle.field.proofs.XorLaws.{xor_undo, xor_swap}
use Rattle.sizes.specs.declared.Sizes.{Sizes}
use Rattle.vector.specs.Vectors.{product}
use Rattle.vector.proofs.VectorLaws.{product_same, product_left, product_cut}
use Rattle.message.specs.Response.{data_in, sum_in, tag_in}
use Rattle.audit.specs.Verdict.{appended, fails, accepts}

-- a test that decides a claim refutes it where it fails
refutes : (b : Bool) (Q : Type 0) → (b ≡ true) ↔ Q → (b ≡ false) ↔ (¬ Q)
refutes true Q d = (λ e. let x : ◌≡◌ {A = ℕ} 0 1 = cc in absurd (omega arith), λ no. absurd (no (d.0 refl)))
refutes false Q d = (λ e q. let f = d.1 q in let x : ◌≡◌ {A = ℕ} 0 1 = cc in absurd (omega arith), λ no. refl)

module _ (z : Sizes) (vectors : ℕ → ℕ → ℕ) (row : ℕ → ℕ) where
  -- the equation of tag s: what Verdict compares with tag plus mask sum
  abbrev total : List ℕ → ℕ → ℕ
  total r s = product (z.n + z.m) (appended z.n z.tags r row) (vectors s)

  abbrev wanted : List ℕ → ℕ → ℕ
  wanted r s = plus (tag_in z.n z.tags r s) (sum_in z.n r s)

  -- a response is accepted exactly when that of every tag holds
  pub accepts_all : (r : List ℕ) → (accepts z vectors row r ≡ true) ↔ ((s : ℕ) → s < z.tags → total r s ≡ wanted r s)
  unfolding accepts fails
  accepts_all r = (
    λ e s l. same (total r s) (wanted r s) (any_below_lem z.tags (fails z vectors row r) (none _ e) s l),
    λ h. ap not (any_none z.tags (fails z vectors row r) (λ s l. differs_same (h s l))),
  )
    where
      none : (t : Bool) → not t ≡ true → t ≡ false
      none true e = cc
      none false e = refl

  module _ (other sent : List ℕ) where
    abbrev change : ℕ → ℕ
    change e = plus (data_in z.n z.tags other e) (data_in z.n z.tags sent e)

    abbrev ChangesAt : ℕ → Type 0
    ChangesAt s =
        product z.n change (vectors s)
        ≡ plus (plus (tag_in z.n z.tags other s) (tag_in z.n z.tags sent s)) (plus (sum_in z.n other s) (sum_in z.n sent s))

    -- for every tag
    abbrev pub Changes : Type 0
    Changes = (s : ℕ) → s < z.tags → ChangesAt s

    -- the rows appended cancel
    changed : (e : ℕ)
        → plus (appended z.n z.tags other row e) (appended z.n z.tags sent row e) ≡ pick (ltb e z.n) (change e) 0
    unfolding appended
    changed e = go (ltb e z.n) (data_in z.n z.tags other e) (data_in z.n z.tags sent e) (row (e - z.n))
      where
        go : (t : Bool) (a b r : ℕ) → plus (pick t a r) (pick t b r) ≡ pick t (plus a b) 0
        go true a b r = refl
        go false a b r = xor_self r

    difference : (s : ℕ) → plus (total other s) (total sent s) ≡ product z.n change (vectors s)
    difference s =
        sym (product_left (z.n + z.m) (appended z.n z.tags other row) (appended z.n z.tags sent row) (vectors s))
        ∙ product_same (z.n + z.m) _ _ (vectors s) (λ i h. changed i) ∙ product_cut z.n (z.n + z.m) change (vectors s) (omega arith)

    to : (s : ℕ) → total sent s ≡ wanted sent s → total other s ≡ wanted other s → ChangesAt s
    to s p o =
        sym (difference s) ∙ ap₂ plus o p
        ∙ xor_swap (tag_in z.n z.tags other s) (sum_in z.n other s) (tag_in z.n z.tags sent s) (sum_in z.n sent s)

    fro : (s : ℕ) → total sent s ≡ wanted sent s → ChangesAt s → total other s ≡ wanted other s
    fro s p c =
        let swap = xor_swap (tag_in z.n z.tags other s) (tag_in z.n z.tags sent s) (sum_in z.n other s) (sum_in z.n sent s) in
        sym (xor_undo (total other s) (total sent s)) ∙ ap₂ plus (difference s ∙ c ∙ swap) p ∙ xor_undo (wanted other s) (wanted sent s)

    pub altered : accepts z vectors row sent ≡ true
        → ((accepts z vectors row other ≡ true) ↔ Changes) × ((accepts z vectors row other ≡ false) ↔ (¬ Changes))
    altered p = (all, refutes (accepts z vectors row other) Changes all)
      where
        all : (accepts z vectors row other ≡ true) ↔ Changes
        all =
            let q = (accepts_all sent).0 p in
            let o = accepts_all other in
            (λ e s l. to s (q s l) (o.0 e s l), λ c. o.1 (λ s l. fro s (q s l) (c s l)))
