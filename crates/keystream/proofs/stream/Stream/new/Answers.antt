use Rattle.keystream.specs.PrivateStream.{begun, fresh}
use Rattle.keystream.specs.ChaCha.{start}
use Rattle.keystream.proofs.stream.Stream.new.Goals as goal

pub returns : goal.returns
unfolding fresh begun start
returns c = rw (c.block_pairs-c.ensures, c.start_state-w.ensures)
