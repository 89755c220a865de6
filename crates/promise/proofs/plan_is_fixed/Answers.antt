use Rattle.promise.proofs.PlanFixed.{plan_is_fixed}
use Rattle.promise.proofs.plan_is_fixed.Goals as goal

pub returns : goal.returns
returns c = plan_is_fixed
