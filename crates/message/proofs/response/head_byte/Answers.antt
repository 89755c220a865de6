use mathlib.Core.Path.{sym}
use Rattle.message.proofs.ResponseLaws.{head_is}
use Rattle.message.proofs.response.head_byte.Goals as goal

pub returns : goal.returns
returns c = sym (head_is _ c.requires)
