use Rattle.bits.proofs.PackLaws.{pack_length, pack_field, pack_spare}
use Rattle.bits.proofs.round_trip.Goals as goal

pub returns : goal.returns
returns c = record { size = pack_length; field = pack_field; spare = pack_spare }
