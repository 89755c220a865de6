-- Laws of `zero_padded`: its elements, its length, and the steps of a loop that fills a list of zeros from the front. Assumes nothing.
use Prim.Native.Nat.{ℕ, zero, suc, ◌+◌, ◌-◌, ◌<◌, ◌≤◌}
use mathlib.Core.Path.{◌≡◌, refl, sym, ap, ◌∙◌}
use mathlib.Core.List.{List, [], ◌∷◌, ◌++◌}
use native.Mathlib.Nat.{sub-zero}
use native.Mathlib.Omega.{arith}
use lib.ListN.{length, set, length-append, get_or-append}
use lib.Seq.{get_or-append-add, set-append_seam, append_snoc}
use Rattle.lists.specs.Lists.{at, tab, zero_padded}
use Rattle.lists.proofs.TabLaws.{length_tab, tab_at}

module _ (n : ℕ) (xs : List ℕ) where
  pub padded_front : (j : ℕ) → j < length xs → at (zero_padded n xs) j ≡ at xs j
  unfolding zero_padded
  padded_front j h = get_or-append xs _ 0 j h

  pub padded_behind : (j : ℕ) → length xs ≤ j → j < n → at (zero_padded n xs) j ≡ 0
  unfolding zero_padded
  padded_behind j h l =
      let e : j ≡ length xs + (j - length xs) = omega arith in
      ap (at (xs ++ tab (n - length xs) (λ i. 0))) e
      ∙ get_or-append-add xs (tab (n - length xs) (λ i. 0)) (j - length xs) 0
      ∙ tab_at (n - length xs) (λ i. 0) (j - length xs) (omega arith)

  pub length_padded : length xs ≤ n → length (zero_padded n xs) ≡ n
  unfolding zero_padded
  length_padded h = length-append xs _ ∙ omega (arith, length_tab (n - length xs) (λ i. 0))

-- ---- filling

pub padded_none : (n : ℕ) → zero_padded n [] ≡ tab n (λ i. 0)
unfolding zero_padded
padded_none n = ap (λ (k : ℕ). tab k (λ i. 0)) (sub-zero n)

zeros : (n : ℕ) → tab (suc n) (λ i. 0) ≡ 0 ∷ tab n (λ i. 0)
unfolding tab
zeros zero = refl
zeros (suc n) = ap (λ (l : List ℕ). l ++ (0 ∷ [])) (zeros n)

pub padded_more : (n : ℕ) (xs : List ℕ) (v : ℕ) → length xs < n → set (zero_padded n xs) (length xs) v ≡ zero_padded n (xs ++ (v ∷ []))
unfolding zero_padded
padded_more n xs v h =
    let rest : ℕ = n - (length xs + 1) in
    let e : n - length xs ≡ suc rest = omega arith in
    let l : n - length (xs ++ (v ∷ [])) ≡ rest = omega (arith, length-append xs (v ∷ [])) in
    ap (λ (r : ℕ). set (xs ++ tab r (λ i. 0)) (length xs) v) e
    ∙ ap (λ (zs : List ℕ). set (xs ++ zs) (length xs) v) (zeros rest)
    ∙ set-append_seam xs 0 (tab rest (λ i. 0)) v
    ∙ sym (append_snoc xs v (tab rest (λ i. 0)))
    ∙ ap (λ (r : ℕ). (xs ++ (v ∷ [])) ++ tab r (λ i. 0)) (sym l)
