use Rattle.bits.proofs.PackLaws.{bit_read}
use Rattle.bits.proofs.bit_at.Goals as goal

pub returns : goal.returns
returns c = bit_read c.args.s.now _ _ _ _ c.from.ensures c.byte_of.ensures c.bits_after.ensures
