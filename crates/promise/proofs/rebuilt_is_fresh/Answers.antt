use Rattle.promise.proofs.FreshLaws.{rebuilt_is_fresh}
use Rattle.promise.proofs.rebuilt_is_fresh.Goals as goal

pub returns : goal.returns
returns c = rebuilt_is_fresh
