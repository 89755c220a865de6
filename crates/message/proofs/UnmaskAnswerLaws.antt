-- What Unmask's answer tells, and what is written then. Assumes nothing.
use Prim.Native.Nat.{ℕ, ◌+◌, ◌-◌, ◌≤◌}
use mathlib.Core.Path.{◌≡◌, refl, sym, ap, ◌∙◌}
use mathlib.Core.List.{List}
use native.Mathlib.Omega.{arith}
use lib.ListN.{length, take, drop}
use Rattle.lists.specs.Lists.{at, tab}
use Rattle.lists.proofs.TabLaws.{length_tab, tab_at, is_tab}
use Rattle.lists.proofs.AnyLaws.{none_at}
use Rattle.answer.specs.Answer.{Outcome, done}
use Rattle.answer.proofs.RefusalLaws.{accepted, same}
use Rattle.field.specs.Field.{plus}
use Rattle.vector.specs.Vectors.{added}
use Rattle.vector.proofs.AddedLaws.{length_added, added_at}
use Rattle.mask.specs.Masks.{mask_row, mask_coefficient, mask}
use Rattle.sizes.specs.Lengths.{response_length, sum_at, n_least, n_most, key_length, id_length}
use Rattle.sizes.proofs.SizeLaws.{n_range}
use Rattle.message.specs.Response.{seed_in}
use Rattle.message.specs.Unmask.{unmask_answer, unmasked}

module _ (n tags : ℕ) (id mask_key response out : List ℕ) {o : Outcome} (answer : o ≡ unmask_answer n tags id mask_key response out) where
  pub unmask_sizes : o ≡ done
      → (n_least ≤ n) × (n ≤ n_most) × (length id ≡ id_length) × (length mask_key ≡ key_length) × (sum_at n 0 ≤ length response) × (length out ≡ n - 2)
  unfolding unmask_answer
  unmask_sizes e =
      let a = accepted _ _ _ (sym answer ∙ e) in
      let r = n_range n (none_at _ 0 a.0) in
      let t = (accepted _ _ _ a.1).0 in
      let long : length response ≡ response_length n tags = same _ _ (none_at _ 2 t) in
      (r.0, r.1, same _ _ (none_at _ 0 t), same _ _ (none_at _ 1 t), omega (arith, long), same _ _ (none_at _ 3 t))

-- the part of a response that is its seed
pub seed_part : (n k : ℕ) (response : List ℕ) → k ≡ 11 → take k (drop (n - 1) response) ≡ seed_in n response
unfolding seed_in
seed_part n k response e = rw e

-- the masked bytes with the mask of the response's seed added are what was masked
pub mask_off : (n : ℕ) (id key response : List ℕ) {seed copied w : List ℕ} → seed ≡ seed_in n response
    → copied ≡ tab (n - 2) (λ e. at response (1 + e)) → w ≡ added (n - 2) 0 (mask n (mask_coefficient key seed) (mask_row key id)) copied
    → w ≡ tab (n - 2) (unmasked n id key response)
unfolding unmasked
mask_off n id key response {copied = copied} {w = w} p q r =
    let long : length copied ≡ n - 2 = ap length q ∙ length_tab (n - 2) _ in
    let off : ℕ → ℕ = mask n (mask_coefficient key (seed_in n response)) (mask_row key id) in
    let there : w ≡ added (n - 2) 0 off copied = rw p at r in
    is_tab (n - 2) _ w (ap length there ∙ length_added (n - 2) 0 off copied ∙ long) (λ e h.
    let z : 0 + e ≡ e = omega arith in
    let here : at copied (0 + e) ≡ at response (1 + e) = rw (z, q) (tab_at (n - 2) _ e h) in
    let same : at w e ≡ at (added (n - 2) 0 off copied) (0 + e) = rw (there, z) refl in
    same ∙ added_at (n - 2) 0 off copied e h (omega arith) ∙ ap (λ (x : ℕ). plus x (off e)) here)
