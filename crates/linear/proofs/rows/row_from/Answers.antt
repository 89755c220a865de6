use Rattle.linear.proofs.KeptLaws.{row_copied}
use Rattle.linear.proofs.rows.row_from.Goals as goal

pub returns : goal.returns
returns c = row_copied c.args.elements.now c.requires c.copy_from_slice.ensures.after
