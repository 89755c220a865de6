use Rattle.tag.proofs.StreamLaws.{key_filled}
use Rattle.tag.proofs.key_vector_into.Goals as goal

pub returns : goal.returns
returns c =
    key_filled _ _ _ c.tag_nonce.ensures _ c.fill.ensures
