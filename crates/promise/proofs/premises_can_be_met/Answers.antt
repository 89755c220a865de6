use Rattle.promise.proofs.Life.{lived}
use Rattle.promise.proofs.premises_can_be_met.Goals as goal

pub returns : goal.returns
returns c = lived
