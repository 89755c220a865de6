use borrow.Author.Count.{below_more}
use mathlib.Core.Path.{sym, ◌∙◌}
use native.Mathlib.Omega.{arith}
use Rattle.lists.proofs.AnyLaws.{any_some, any_none}
use Rattle.answer.proofs.RefusalLaws.{differs_same, differs_other}
use Rattle.keystream.proofs.DrawLaws.{after_none, after_more}
use Rattle.mask.proofs.any_element.Goals as goal

pub loop-init : goal.loop-init
loop-init c = (after_none _, c.key_stream-vector.ensures, λ e l. absurd (omega arith))

pub returns-then-d-ne0 : goal.returns-then-d-ne0
returns-then-d-ne0 c =
    let l = c.loop in
    let d = after_more _ _ l.invariant.0 c.next-d.ensures in
    sym (any_some _ _ l.counter (omega arith) (differs_other (λ z. c.if-d-ne0.true (d.0 ∙ l.invariant.1 l.counter ∙ z))))

pub loop-preserved : goal.loop-preserved
loop-preserved c =
    let l = c.loop in
    let d = after_more _ _ l.invariant.0 c.next-d.ensures in
    (d.1, l.invariant.1, below_more _ _ l.invariant.2 (sym (d.0 ∙ l.invariant.1 l.counter) ∙ c.if-d-ne0.false))

pub returns : goal.returns
returns c = sym (any_none _ _ (λ e l. differs_same (c.loop.invariant.2 e (omega arith))))
