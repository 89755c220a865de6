use Rattle.promise.proofs.ReadFixed.{read_is_fixed}
use Rattle.promise.proofs.read_is_fixed.Goals as goal

pub returns : goal.returns
returns c = read_is_fixed
