use mathlib.Core.Path.{sym, ◌∙◌}
use native.Mathlib.Omega.{arith}
use Rattle.lists.proofs.AnyLaws.{or_false}
use Rattle.answer.proofs.RefusalLaws.{refused, passed, listed}
use Rattle.sizes.proofs.SizeLaws.{n_range, m_range}
use Rattle.tag.specs.Vector.{vector_answer}
use Rattle.tag.proofs.vector_check.Goals as goal

pub returns-then-n_outside-m_outside : goal.returns-then-n_outside-m_outside
unfolding vector_answer
returns-then-n_outside-m_outside c = sym (refused _ _ (listed _ _ (cc)))

pub overflow_add-n : goal.overflow_add-n
overflow_add-n c =
    let w = or_false _ _ (or_false _ _ c.if-n_outside-m_outside.false).0 in
    omega (arith, n_range _ (sym c.n_outside.ensures ∙ w.0), m_range _ (sym c.m_outside.ensures ∙ w.1))

pub returns-then-tag_key-id : goal.returns-then-tag_key-id
unfolding vector_answer
returns-then-tag_key-id c = sym (passed _ _ (listed _ _ (cc)) ∙ refused _ _ (listed _ _ (cc)))

pub returns : goal.returns
unfolding vector_answer
returns c = sym (passed _ _ (listed _ _ (cc)) ∙ passed _ _ (listed _ _ (cc)))
