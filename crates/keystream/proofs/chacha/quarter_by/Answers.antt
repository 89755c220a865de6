use Rattle.keystream.specs.ChaCha.{quarter, set_four}
use Rattle.keystream.proofs.chacha.quarter_by.Goals as goal

pub returns : goal.returns
unfolding quarter set_four
returns c = rw c.quarter_round-f.ensures
