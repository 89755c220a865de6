use Rattle.keystream.specs.ChaCha.{quarter_of}
use Rattle.keystream.proofs.ChaChaLaws.{halves}
use Rattle.keystream.proofs.chacha.quarter_round.Goals as goal

pub returns : goal.returns
unfolding quarter_of
returns c =
    halves _ _ _ _ _
    c.wrapping_add_u32-a1.ensures.value
    c.rotated-d1.ensures
    c.wrapping_add_u32-c1.ensures.value
    c.rotated-b1.ensures
    c.wrapping_add_u32-a2.ensures.value
    c.rotated-d2.ensures
    c.wrapping_add_u32-c2.ensures.value
    c.rotated-b2.ensures
