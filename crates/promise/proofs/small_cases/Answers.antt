use Rattle.promise.proofs.SmallCases.{small_cases}
use Rattle.promise.proofs.small_cases.Goals as goal

pub returns : goal.returns
returns c = small_cases
