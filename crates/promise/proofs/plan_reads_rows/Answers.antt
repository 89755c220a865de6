use Rattle.promise.proofs.PlanRows.{plan_reads_rows}
use Rattle.promise.proofs.plan_reads_rows.Goals as goal

pub returns : goal.returns
returns c = plan_reads_rows
