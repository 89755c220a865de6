use Rattle.promise.proofs.PlanRepaired.{planned_repair}
use Rattle.promise.proofs.planned_repair.Goals as goal

pub returns : goal.returns
returns c = planned_repair
