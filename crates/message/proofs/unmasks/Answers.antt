use Rattle.message.proofs.UnmaskLaws.{unmask_element}
use Rattle.message.proofs.unmasks.Goals as goal

pub returns : goal.returns
returns c = λ n tags node block tag total id key seed low size. unmask_element n tags node block tag total id key seed low size
