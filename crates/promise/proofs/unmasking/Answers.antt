use Rattle.promise.proofs.Unmask.{unmasking}
use Rattle.promise.proofs.unmasking.Goals as goal

pub returns : goal.returns
returns c = unmasking
