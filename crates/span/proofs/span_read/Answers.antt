use Rattle.archive.proofs.CountedLaws.{read_low}
use Rattle.span.proofs.span_read.Goals as goal

pub tell-requires : goal.tell-requires
tell-requires c = read_low _ _ c.read.result _ c.read.ensures
