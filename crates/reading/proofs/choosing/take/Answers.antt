use Rattle.choice.specs.PrivateChoice.{offered}
use Rattle.reading.proofs.ReadingLaws.{chosen_in}
use Rattle.reading.proofs.choosing.take.Goals as goal

pub returns : goal.returns
returns g c =
    chosen_in c.args.records.z c.args.records.bytes.now _ _ c.rows_in.ensures (offered (g.C.Candidates.marked c.args.candidates)) c.choose.ensures
