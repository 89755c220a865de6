use Rattle.promise.proofs.Hollow.{hollow}
use Rattle.promise.proofs.no_hollow_program.Goals as goal

pub returns : goal.returns
returns c = hollow
