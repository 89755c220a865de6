use Rattle.lists.proofs.ArrayLaws.{array_is}
use Rattle.answer.proofs.RefusalLaws.{written, kept}
use Rattle.mask.proofs.SetupLaws.{setup_sizes}
use Rattle.mask.specs.Setup.{setup_out}
use Rattle.mask.proofs.setup.Goals as goal

pub unwrap-tag_key-requires : goal.unwrap-tag_key-requires
unwrap-tag_key-requires c = c.try_from.ensures.0 (setup_sizes _ _ _ _ _ _ c.setup_check.ensures c.in_ok-setup_check.was).3

pub unwrap-requires : goal.unwrap-requires
unwrap-requires c = c.try_from-2.ensures.0 (setup_sizes _ _ _ _ _ _ c.setup_check.ensures c.in_ok-setup_check.was).4

pub unwrap-requires-2 : goal.unwrap-requires-2
unwrap-requires-2 c = c.try_from-3.ensures.0 (setup_sizes _ _ _ _ _ _ c.setup_check.ensures c.in_ok-setup_check.was).5

pub invariant_of-rows : goal.invariant_of-rows
invariant_of-rows c =
    let l = setup_sizes _ _ _ _ _ _ c.setup_check.ensures c.in_ok-setup_check.was in
    record { n_low = l.0; n_high = l.1 }

pub setup_into-requires : goal.setup_into-requires
setup_into-requires c =
    let l = setup_sizes _ _ _ _ _ _ c.setup_check.ensures c.in_ok-setup_check.was in
    (l.2, l.6)

pub returns-clause-output : goal.returns-clause-output
unfolding setup_out
returns-clause-output c =
    let a = c.setup_check.ensures in
    let tag_key = array_is _ _ _ _ c.try_from.ensures.1 c.unwrap-tag_key.ensures in
    let mask_key = array_is _ _ _ _ c.try_from-2.ensures.1 c.unwrap.ensures in
    let id = array_is _ _ _ _ c.try_from-3.ensures.1 c.unwrap-2.ensures in
    written _ a c.in_ok-setup_check.was (rw (← tag_key, ← mask_key, ← id) c.setup_into.ensures)

pub returns-in_err-setup_check-clause-output : goal.returns-in_err-setup_check-clause-output
unfolding setup_out
returns-in_err-setup_check-clause-output c = kept _ c.setup_check.ensures c.in_err-setup_check.was
