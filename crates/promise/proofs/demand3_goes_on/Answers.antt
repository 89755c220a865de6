use Rattle.promise.proofs.GoesOnLaws.{demand3_goes_on}
use Rattle.promise.proofs.demand3_goes_on.Goals as goal

pub returns : goal.returns
returns c = demand3_goes_on
