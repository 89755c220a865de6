use Rattle.tag.proofs.TagLaws.{tags_combine}
use Rattle.tag.proofs.tags_combine.Goals as goal

pub returns : goal.returns
returns c = tags_combine
