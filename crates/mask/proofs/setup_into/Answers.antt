use Rattle.mask.proofs.SetupLaws.{auxiliary_of}
use Rattle.mask.proofs.setup_into.Goals as goal

pub returns : goal.returns
returns c =
    let high = c.args.rows.now.n_high in
    auxiliary_of _ _ _ _ _ c.key_vectors.new.vectors c.key_vectors.ensures high
    c.auxiliary_into.ensures
