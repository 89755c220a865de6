use mathlib.Core.Path.{sym, ◌∙◌}
use native.Mathlib.Omega.{arith}
use Rattle.message.proofs.ChallengeReadLaws.{readable_as}
use Rattle.message.proofs.asked.ChallengeMessage.node.Goals as goal

pub read_field-requires : goal.read_field-requires
read_field-requires c = (omega arith, omega (arith, (readable_as _ c.self.view_is c.self.invariant).head_fits))

pub returns : goal.returns
returns c =
    let w = readable_as _ c.self.view_is c.self.invariant in
    (c.read_field.ensures ∙ sym w.node_is, omega (arith, w.node_is, w.node_low))
