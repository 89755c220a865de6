use native.Mathlib.Omega.{arith}
use Rattle.lists.proofs.SliceLaws.{tab_filled}
use Rattle.message.proofs.ChallengeWriteLaws.{head_written, item_written, all_written}
use Rattle.message.proofs.asking.write_message.Goals as goal

pub loop-j-init : goal.loop-j-init
loop-j-init c =
    head_written c.requires.2 (tab_filled _ 0 (c.fill.ensures.after (λ y p. p))) c.write_field.ensures
    c.write_field-2.ensures c.write_field-3.ensures

pub loop-j-preserved : goal.loop-j-preserved
loop-j-preserved c =
    item_written c.loop-j.invariant c.from.ensures
    c.from-in-loop-j.ensures c.write_field-in-loop-j.ensures c.write_field-in-loop-j-2.ensures

pub returns : goal.returns
returns c = all_written (omega arith) c.loop-j.invariant
