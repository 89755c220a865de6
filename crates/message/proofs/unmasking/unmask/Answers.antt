use Rattle.lists.proofs.ArrayLaws.{array_is}
use Rattle.answer.proofs.RefusalLaws.{written, kept}
use Rattle.message.proofs.UnmaskAnswerLaws.{unmask_sizes}
use Rattle.message.specs.Unmask.{unmask_out}
use Rattle.message.proofs.unmasking.unmask.Goals as goal

pub unwrap-requires : goal.unwrap-requires
unwrap-requires c = c.try_from.ensures.0 (unmask_sizes _ _ _ _ _ _ c.unmask_check.ensures c.in_ok-unmask_check.was).3

pub unwrap-requires-2 : goal.unwrap-requires-2
unwrap-requires-2 c = c.try_from-2.ensures.0 (unmask_sizes _ _ _ _ _ _ c.unmask_check.ensures c.in_ok-unmask_check.was).2

pub invariant_of-rows : goal.invariant_of-rows
invariant_of-rows c =
    let l = unmask_sizes _ _ _ _ _ _ c.unmask_check.ensures c.in_ok-unmask_check.was in
    record { n_low = l.0; n_high = l.1 }

pub unmask_into-requires : goal.unmask_into-requires
unmask_into-requires c =
    let l = unmask_sizes _ _ _ _ _ _ c.unmask_check.ensures c.in_ok-unmask_check.was in
    (l.4, l.5)

pub returns-clause-output : goal.returns-clause-output
unfolding unmask_out
returns-clause-output c =
    let key = array_is _ _ _ _ c.try_from.ensures.1 c.unwrap.ensures in
    let id = array_is _ _ _ _ c.try_from-2.ensures.1 c.unwrap-2.ensures in
    written _ c.unmask_check.ensures c.in_ok-unmask_check.was (rw (← id, ← key) c.unmask_into.ensures)

pub returns-in_err-unmask_check-clause-output : goal.returns-in_err-unmask_check-clause-output
unfolding unmask_out
returns-in_err-unmask_check-clause-output c =
    let a = c.unmask_check.ensures in kept _ a c.in_err-unmask_check.was
