use Prim.Native.Nat.{ℕ, ◌-◌, ◌*◌, ◌≤◌}
use mathlib.Core.Path.{◌≡◌, sym, ◌∙◌}
use mathlib.Core.Bool.{false}
use mathlib.Core.List.{List, [], ◌∷◌}
use native.Mathlib.Omega.{arith}
use lib.ListN.{length}
use Rattle.lists.proofs.AnyLaws.{none_at, or_false, or_all}
use Rattle.answer.specs.Refusals.{differs}
use Rattle.answer.proofs.RefusalLaws.{refused, passed, listed, same}
use Rattle.sizes.specs.Lengths.{key_length, id_length, response_length}
use Rattle.sizes.proofs.SizeLaws.{n_range}
use Rattle.message.specs.Unmask.{unmask_answer}
use Rattle.message.proofs.unmasking.unmask_check.Goals as goal

pub returns-then-n_outside-tags_outside : goal.returns-then-n_outside-tags_outside
unfolding unmask_answer
returns-then-n_outside-tags_outside c = sym (refused _ _ (listed _ _ (cc)))

pub response_length-requires : goal.response_length-requires
response_length-requires c =
    let w = or_false _ _ c.if-n_outside-tags_outside.false in
    (sym c.n_outside.ensures ∙ w.0, sym c.tags_outside.ensures ∙ w.1)

pub overflow_sub-n : goal.overflow_sub-n
overflow_sub-n c = omega (arith, n_range _ (sym c.n_outside.ensures ∙ (or_false _ _ c.if-n_outside-tags_outside.false).0))

pub returns-then-id-mask_key : goal.returns-then-id-mask_key
unfolding unmask_answer
returns-then-id-mask_key c = sym (passed _ _ (listed _ _ (cc)) ∙ refused _ _ (listed _ _ (cc)))

-- the response has its first byte
one_byte : (n tags : ℕ) (id key response out : List ℕ) {long : ℕ} → long ≡ response_length n tags
    → or_all (differs (length id) id_length) (differs (length key) key_length ∷ differs (length response) long ∷ differs (length out) (n - 2) ∷ []) ≡ false
    → 8 ≤ 8 * length response
one_byte n tags id key response out {long} q e =
    omega (arith, q, same (length response) long (none_at _ 2 (listed (differs (length id) id_length) (_ ∷ _ ∷ _ ∷ []) e)))

pub read_field-kind-requires : goal.read_field-kind-requires
read_field-kind-requires c =
    let l = c.response_length.ensures in
    let a = c.args in
    (omega arith, omega (arith, one_byte a.n a.tags a.id.now a.mask_key.now a.response.now a.out.now l c.if-id-mask_key.false))

pub read_field-node-requires : goal.read_field-node-requires
read_field-node-requires c =
    let l = c.response_length.ensures in
    let a = c.args in
    (omega arith, omega (arith, one_byte a.n a.tags a.id.now a.mask_key.now a.response.now a.out.now l c.if-id-mask_key.false))

pub read_field-spare-requires : goal.read_field-spare-requires
read_field-spare-requires c =
    let l = c.response_length.ensures in
    let a = c.args in
    (omega arith, omega (arith, one_byte a.n a.tags a.id.now a.mask_key.now a.response.now a.out.now l c.if-id-mask_key.false))

pub returns-then-kind-node : goal.returns-then-kind-node
unfolding unmask_answer
returns-then-kind-node c = sym (passed _ _ (listed _ _ (cc)) ∙ passed _ _ (listed _ _ (cc)) ∙ refused _ _ (listed _ _ (cc)))

pub returns : goal.returns
unfolding unmask_answer
returns c = sym (passed _ _ (listed _ _ (cc)) ∙ passed _ _ (listed _ _ (cc)) ∙ passed _ _ (listed _ _ (cc)))
