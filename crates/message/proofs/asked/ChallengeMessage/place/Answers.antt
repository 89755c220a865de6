use mathlib.Core.Path.{sym, ◌∙◌}
use native.Mathlib.Omega.{arith}
use Rattle.message.proofs.ChallengeReadLaws.{readable_as}
use Rattle.message.proofs.asked.ChallengeMessage.place.Goals as goal

pub place_in-requires : goal.place_in-requires
place_in-requires c =
    let w = readable_as _ c.self.view_is c.self.invariant in
    (omega (arith, w.count_low), omega (arith, w.items_fit))

pub returns : goal.returns
returns c = c.place_in.ensures ∙ sym ((readable_as _ c.self.view_is c.self.invariant).place_is _ c.requires)
