use Rattle.promise.proofs.LossesReads.{losses_are_reads}
use Rattle.promise.proofs.losses_are_reads.Goals as goal

pub returns : goal.returns
returns c = losses_are_reads
