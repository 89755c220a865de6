-- Unmask takes off the mask that a response was made with. Assumes nothing.
use Prim.Native.Nat.{ℕ, ◌+◌, ◌-◌, ◌<◌, ◌≤◌}
use mathlib.Core.Path.{◌≡◌, ◌∙◌}
use mathlib.Core.Bool.{false}
use mathlib.Core.List.{List, [], ◌∷◌}
use native.Mathlib.Omega.{arith}
use lib.Dec.{ltb}
use lib.ListN.{length}
use borrow.Author.Tests.{le-ltb, eq-eqb}
use Rattle.lists.specs.Lists.{tab, any_of}
use Rattle.lists.proofs.TabLaws.{tab_same}
use Rattle.answer.specs.Answer.{done}
use Rattle.answer.specs.declared.Refusal.TheVariants.{Size, Length, Malformed}
use Rattle.answer.specs.Refusals.{differs}
use Rattle.answer.proofs.RefusalLaws.{passed, after_done, not_outside}
use Rattle.field.proofs.XorLaws.{xor_undo}
use Rattle.bits.specs.Fields.{◌wide◌, widths, field_at}
use Rattle.bits.proofs.PackLaws.{pack_field}
use Rattle.mask.specs.Masks.{mask_row, mask_coefficient, mask}
use Rattle.sizes.specs.Lengths.{response_length, n_least, n_most, tags_most}
use Rattle.sizes.specs.Sizes.{n_outside, tags_outside}
use Rattle.message.specs.Response.{response_head, response_bytes}
use Rattle.message.specs.Unmask.{unmask_answer, unmasked, unmask_out}
use Rattle.message.proofs.ResponseLaws.{response_length_lem, response_fields, response_masked, response_seed}

module _ (n tags node : ℕ) (block tag total : ℕ → ℕ) (id mask_key seed : List ℕ) (low : 3 ≤ n) (seed_size : length seed ≡ 11) where
  abbrev hidden : ℕ → ℕ
  hidden = mask n (mask_coefficient mask_key seed) (mask_row mask_key id)

  abbrev r : List ℕ
  r = response_bytes n tags node block tag hidden seed total

  pub unmask_element : (e : ℕ) → e < n - 2 → unmasked n id mask_key r e ≡ block e
  unfolding unmasked
  unmask_element e h =
      rw (
        response_seed n tags node block tag hidden seed total low seed_size,
        response_masked n tags node block tag hidden seed total low seed_size e h,
      )
      (xor_undo (block e) (hidden e))

  -- ---- and refuses no such response

  module _ (out : List ℕ) (high : n ≤ n_most) (some : 1 ≤ tags) (few : tags ≤ tags_most) (node_low : node ≤ 5) (id_size : length id ≡ 8)
      (key-size : length mask_key ≡ 32) (out_size : length out ≡ n - 2) where
    head_field : (from w : ℕ) → from + w ≤ 8 → field_at r from w ≡ field_at (response_head node) from w
    head_field = response_fields n tags node block tag hidden seed total low seed_size

    kind_back : field_at r 0 4 ≡ 2
    unfolding widths
    kind_back = head_field 0 4 (omega arith) ∙ pack_field [] (4 wide 2) _ (omega arith)

    node_back : field_at r 4 3 ≡ node
    unfolding widths
    node_back = head_field 4 3 (omega arith) ∙ pack_field ((4 wide 2) ∷ []) (3 wide node) _ (omega arith)

    spare_back : field_at r 7 1 ≡ 0
    unfolding widths
    spare_back = head_field 7 1 (omega arith) ∙ pack_field ((4 wide 2) ∷ (3 wide node) ∷ []) (1 wide 0) [] (omega arith)

    lengths_right : any_of (differs (length id) 8 ∷ differs (length mask_key) 32 ∷ differs (length r) (response_length n tags) ∷ differs (length out) (n - 2) ∷ []) ≡ false
    unfolding any_of
    lengths_right =
        rw (
          eq-eqb (length id) 8 id_size,
          eq-eqb (length mask_key) 32 key-size,
          eq-eqb (length r) (response_length n tags) (response_length_lem n tags node block tag hidden seed total low seed_size),
          eq-eqb (length out) (n - 2) out_size,
        )

    head_right : any_of (differs (field_at r 0 4) 2 ∷ ltb 5 (field_at r 4 3) ∷ differs (field_at r 7 1) 0 ∷ []) ≡ false
    unfolding any_of
    head_right = rw (kind_back, node_back, spare_back, le-ltb 5 node node_low)

    sizes_right : any_of (n_outside n ∷ tags_outside tags ∷ []) ≡ false
    unfolding any_of
    sizes_right = rw (not_outside n_least n_most n low high, not_outside 1 tags_most tags some few)

    unmask_accepts : unmask_answer n tags id mask_key r out ≡ done
    unfolding unmask_answer
    unmask_accepts = passed Size _ sizes_right ∙ passed Length _ lengths_right ∙ passed Malformed _ head_right

    pub unmask_gives : (unmask_answer n tags id mask_key r out ≡ done) × (unmask_out n tags id mask_key r out ≡ tab (n - 2) block)
    unfolding unmask_out
    unmask_gives = (unmask_accepts, after_done _ _ unmask_accepts ∙ tab_same (n - 2) _ _ unmask_element)
