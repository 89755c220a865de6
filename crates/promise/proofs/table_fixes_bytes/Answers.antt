use Rattle.promise.proofs.FreshLaws.{table_fixes_bytes}
use Rattle.promise.proofs.table_fixes_bytes.Goals as goal

pub returns : goal.returns
returns c = table_fixes_bytes
