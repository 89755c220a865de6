use Rattle.std.proofs.Common.{refl}
use Rattle.keystream.proofs.DrawLaws.{after_none, after_more, draws_in_order}
use Rattle.keystream.proofs.stream.draw_laws.Goals as goal

pub returns : goal.returns
returns c = record { none = after_none; more = λ i s. (after_more i s refl refl).1; in_order = draws_in_order }
