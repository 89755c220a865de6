use mathlib.Core.Path.{sym, ◌∙◌}
use native.Mathlib.Omega.{arith}
use Rattle.message.proofs.ChallengeReadLaws.{readable_as}
use Rattle.message.proofs.asked.ChallengeMessage.coefficient.Goals as goal

pub coefficient_in-requires : goal.coefficient_in-requires
coefficient_in-requires c =
    let w = readable_as _ c.self.view_is c.self.invariant in
    (omega (arith, w.count_low), omega (arith, w.items_fit))

pub returns : goal.returns
returns c = c.coefficient_in.ensures ∙ sym ((readable_as _ c.self.view_is c.self.invariant).coefficient_is _ c.requires)
