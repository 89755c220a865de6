use mathlib.Core.Path.{◌∙◌}
use Rattle.lists.proofs.SliceLaws.{fronts_differ}
use Rattle.archive.specs.Gather.{other_archive}
use Rattle.gathering.proofs.copying.other_archive.Goals as goal

pub returns : goal.returns
unfolding other_archive
returns c = c.ne.ensures ∙ fronts_differ 12 c.args.archive.now c.args.share.now c.requires.0 c.requires.1
