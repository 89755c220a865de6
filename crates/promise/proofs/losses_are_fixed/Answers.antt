use Rattle.promise.proofs.LossesFixed.{losses_are_fixed}
use Rattle.promise.proofs.losses_are_fixed.Goals as goal

pub returns : goal.returns
returns c = losses_are_fixed
