use mathlib.Core.Path.{sym, ◌∙◌}
use Rattle.lists.proofs.ArrayLaws.{array_is}
use Rattle.lists.proofs.AnyLaws.{or_false}
use Rattle.answer.proofs.RefusalLaws.{refused, passed, listed, same}
use Rattle.sizes.proofs.SizeLaws.{n_range, tags_range}
use Rattle.mask.specs.Setup.{setup_answer}
use Rattle.mask.proofs.setup_check.Goals as goal

pub returns-then-n_outside-tags_outside : goal.returns-then-n_outside-tags_outside
unfolding setup_answer
returns-then-n_outside-tags_outside c = sym (refused _ _ (listed _ _ (cc)))

pub auxiliary_length-requires : goal.auxiliary_length-requires
auxiliary_length-requires c =
    let w = or_false _ _ c.if-n_outside-tags_outside.false in
    (sym c.n_outside.ensures ∙ w.0, sym c.tags_outside.ensures ∙ w.1)

pub returns-then-tag_key-mask_key : goal.returns-then-tag_key-mask_key
unfolding setup_answer
returns-then-tag_key-mask_key c = sym (passed _ _ (listed _ _ (cc)) ∙ refused _ _ (listed _ _ (cc)))

pub unwrap-tag_key-requires : goal.unwrap-tag_key-requires
unwrap-tag_key-requires c = c.try_from.ensures.0 (same _ _ (or_false _ _ (or_false _ _ (or_false _ _ c.if-tag_key-mask_key.false).0).0).0)

pub unwrap-id-requires : goal.unwrap-id-requires
unwrap-id-requires c = c.try_from-2.ensures.0 (same _ _ (or_false _ _ (or_false _ _ c.if-tag_key-mask_key.false).0).1)

pub any_zero_vector-requires : goal.any_zero_vector-requires
any_zero_vector-requires c =
    let w = or_false _ _ c.if-n_outside-tags_outside.false in
    let n = n_range _ (sym c.n_outside.ensures ∙ w.0) in
    let tags = tags_range _ (sym c.tags_outside.ensures ∙ w.1) in
    (n.0, tags.1)

pub returns-then-any_zero_vector : goal.returns-then-any_zero_vector
unfolding setup_answer
returns-then-any_zero_vector c =
    let key = array_is _ _ _ _ c.try_from.ensures.1 c.unwrap-tag_key.ensures in
    let id = array_is _ _ _ _ c.try_from-2.ensures.1 c.unwrap-id.ensures in
    sym (
    passed _ _ (listed _ _ (cc)) ∙ passed _ _ (listed _ _ (cc))
    ∙ refused _ _ (rw (← key, ← id) (sym c.any_zero_vector.ensures ∙ c.if-any_zero_vector.true)))

pub returns : goal.returns
unfolding setup_answer
returns c =
    let key = array_is _ _ _ _ c.try_from.ensures.1 c.unwrap-tag_key.ensures in
    let id = array_is _ _ _ _ c.try_from-2.ensures.1 c.unwrap-id.ensures in
    sym (
    passed _ _ (listed _ _ (cc)) ∙ passed _ _ (listed _ _ (cc))
    ∙ passed _ _ (rw (← key, ← id) (sym c.any_zero_vector.ensures ∙ c.if-any_zero_vector.false)))
