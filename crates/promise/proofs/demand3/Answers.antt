use Rattle.promise.proofs.DemandLaws.{demand3}
use Rattle.promise.proofs.demand3.Goals as goal

pub returns : goal.returns
returns c = demand3
