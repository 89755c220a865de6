use Rattle.promise.proofs.Worked.{worked}
use Rattle.promise.proofs.worked_values.Goals as goal

pub returns : goal.returns
returns c = worked
