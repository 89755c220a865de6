use Rattle.promise.proofs.PlanRepaired.{no_thetas}
use Rattle.promise.proofs.no_thetas.Goals as goal

pub returns : goal.returns
returns c = no_thetas
