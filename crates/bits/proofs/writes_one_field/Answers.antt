use Rattle.bits.proofs.WriteLaws.{write_length, write_field, write_below, write_above}
use Rattle.bits.proofs.writes_one_field.Goals as goal

pub returns : goal.returns
returns c = record { size = write_length; field = write_field; below = write_below; above = write_above }
