use Rattle.mask.proofs.SetupLaws.{mask_drawn}
use Rattle.mask.proofs.rows.MaskRows.add_mask.Goals as goal

pub returns : goal.returns
returns c =
    mask_drawn _ _ _ _ _ _ c.seed_nonce.ensures c.new-coefficients.ensures c.add_rows.ensures
