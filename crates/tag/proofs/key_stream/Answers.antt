use Rattle.tag.proofs.StreamLaws.{key_streamed}
use Rattle.tag.proofs.key_stream.Goals as goal

pub returns : goal.returns
returns c = key_streamed _ _ _ c.tag_nonce.ensures c.new.ensures
