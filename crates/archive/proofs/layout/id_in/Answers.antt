use Rattle.archive.specs.Layout.{id_of}
use Rattle.archive.proofs.layout.id_in.Goals as goal

pub returns : goal.returns
unfolding id_of
returns c = c.copy_from_slice.ensures.after
