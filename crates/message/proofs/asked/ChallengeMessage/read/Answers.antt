use mathlib.Core.Path.{sym, ◌∙◌}
use Rattle.message.proofs.ChallengeReadLaws.{read_refused, read_formed}
use Rattle.message.proofs.asked.ChallengeMessage.read.Goals as goal

pub returns-then-malformed : goal.returns-then-malformed
returns-then-malformed c = read_refused _ (sym c.malformed.ensures ∙ c.if-malformed.true)

pub returns : goal.returns
returns c = read_formed _ (sym c.malformed.ensures ∙ c.if-malformed.false)
