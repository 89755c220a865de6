use Rattle.lists.proofs.AnyLaws.{any_of_lem}
use Rattle.answer.specs.Refusals.{outside}
use Rattle.answer.proofs.outside.Goals as goal

pub returns : goal.returns
unfolding outside
returns c = any_of_lem _ _
