use Rattle.linear.proofs.RankLaws.{last_combined}
use Rattle.linear.proofs.last_is_combined.Goals as goal

pub returns : goal.returns
returns c = last_combined
