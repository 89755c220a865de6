use Rattle.archive.proofs.MarkLaws.{mark_read}
use Rattle.archive.proofs.layout.marked.Goals as goal

pub returns : goal.returns
returns c = mark_read _ _ c.read_field.ensures
