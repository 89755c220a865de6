use Rattle.promise.proofs.WholeLaws.{gathered_is_whole}
use Rattle.promise.proofs.gathered_is_whole.Goals as goal

pub returns : goal.returns
returns c = gathered_is_whole
