use Rattle.archive.proofs.RepairedLaws.{repaired_rows}
use Rattle.archive.proofs.repaired_rows.Goals as goal

pub returns : goal.returns
returns c = repaired_rows
